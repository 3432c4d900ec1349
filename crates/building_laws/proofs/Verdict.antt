-- The verdict on a list: 0 exactly if the list is accepted, and else 2 or 3 for the first row that is refused. Assumes nothing.
use mathlib.Core.Bool.{Bool, true, false}
use mathlib.Core.List.{List, [], ◌∷◌, ◌++◌, append_assoc}
use mathlib.Core.Logic.{◌⊎◌, inl, inr, ⊎_elim}
use mathlib.Core.Path.{◌≡◌, refl, sym, ◌∙◌}
use lib.Dec.{eqb}
use borrow.Author.Tests.{eqb-true}
use Rattle.limits.specs.Refusals.{ITEM, LIMIT}
use Rattle.encode.specs.declared.Kind.{Kind}
use Rattle.plain.specs.Rows.{Row, fits}
use Rattle.encode.proofs.Bools.{both}
use Rattle.format.specs.declared.Encoding.{Encoding}
use Rattle.format.specs.Sizes.{within_limits, all_fit, accepted}
use Rattle.format.proofs.Within.{none_within}
use Rattle.building_laws.specs.Built.{accepted_after, verdict_after, verdict, FirstRefused}
use Rattle.building_laws.proofs.Same.{never}
use Rattle.building_laws.proofs.Prefixes.{row-by-row}

-- ---- a list is accepted exactly if the verdict is 0
after-told : (k : Kind) (e : Encoding) (done rows : List Row) → accepted_after k e done rows ≡ eqb (verdict_after k e done rows) 0
unfolding accepted_after verdict_after
after-told k e done [] = refl
after-told k e done (x ∷ rows) = go (fits k x) (within_limits k e (done ++ (x ∷ []))) refl refl (after-told k e (done ++ (x ∷ [])) rows)
  where
    go : (f w : Bool) → fits k x ≡ f → within_limits k e (done ++ (x ∷ [])) ≡ w
        → accepted_after k e (done ++ (x ∷ [])) rows ≡ eqb (verdict_after k e (done ++ (x ∷ [])) rows) 0
        → accepted_after k e done (x ∷ rows) ≡ eqb (verdict_after k e done (x ∷ rows)) 0
    go false false p q ih = simp (p, q)
    go false true p q ih = simp (p, q)
    go true false p q ih = simp (p, q)
    go true true p q ih = simp (p, q) ih

pub verdict-told : (k : Kind) (e : Encoding) (rows : List Row) → accepted k e rows ≡ eqb (verdict k e rows) 0
unfolding verdict
verdict-told k e rows = sym (row-by-row k e rows) ∙ after-told k e [] rows

-- ---- and else it is 2 or 3 for the first row that is refused
module _ (k : Kind) (e : Encoding) where
  fit-snoc : (rows : List Row) (x : Row) → all_fit k rows ≡ true → fits k x ≡ true → all_fit k (rows ++ (x ∷ [])) ≡ true
  unfolding all_fit
  fit-snoc [] x h f = rw f
  fit-snoc (y ∷ rows) x h f =
      let p = both (fits k y) (all_fit k rows) h in
      rw p.0 (fit-snoc rows x p.1 f)

  pub accepted-snoc : (rows : List Row) (x : Row) → accepted k e rows ≡ true → fits k x ≡ true → within_limits k e (rows ++ (x ∷ [])) ≡ true
      → accepted k e (rows ++ (x ∷ [])) ≡ true
  unfolding accepted
  accepted-snoc rows x h f w = rw (fit-snoc rows x (both (all_fit k rows) (within_limits k e rows) h).0 f) w

  none-accepted : accepted k e [] ≡ true
  unfolding accepted all_fit
  none-accepted = none_within k e

  first-after : (done rows : List Row) → accepted k e done ≡ true → accepted_after k e done rows ≡ false → FirstRefused k e (done ++ rows) (verdict_after k e done rows)
  unfolding accepted_after verdict_after
  first-after done [] t h = never (sym h)
  first-after done (x ∷ rows) t h = go (fits k x) (within_limits k e (done ++ (x ∷ []))) refl refl (first-after (done ++ (x ∷ [])) rows)
    where
      go : (f w : Bool) → fits k x ≡ f → within_limits k e (done ++ (x ∷ [])) ≡ w
          → (accepted k e (done ++ (x ∷ [])) ≡ true → accepted_after k e (done ++ (x ∷ [])) rows ≡ false
          → FirstRefused k e (done ++ (x ∷ []) ++ rows) (verdict_after k e (done ++ (x ∷ [])) rows))
          → FirstRefused k e (done ++ (x ∷ rows)) (verdict_after k e done (x ∷ rows))
      go false w p q ih = record { before = done; row = x; behind = rows; whole = refl; taken = t; why = inl (rw p, p) }
      go true false p q ih = record { before = done; row = x; behind = rows; whole = refl; taken = t; why = inr (rw (p, q), p, q) }
      go true true p q ih = rw (p, q) (rw (append_assoc done (x ∷ []) rows) at (ih (accepted-snoc done x t p q) (rw (p, q) at h)))

  pub first-refused : (rows : List Row) → accepted k e rows ≡ false → FirstRefused k e rows (verdict k e rows)
  unfolding verdict
  first-refused rows h = first-after [] rows none-accepted (row-by-row k e rows ∙ h)

  pub verdict-only : (rows : List Row) → let v = verdict k e rows in (v ≡ 0) ⊎ ((v ≡ ITEM) ⊎ (v ≡ LIMIT))
  verdict-only rows = go (accepted k e rows) refl
    where
      go : (t : Bool) → accepted k e rows ≡ t → let v = verdict k e rows in (v ≡ 0) ⊎ ((v ≡ ITEM) ⊎ (v ≡ LIMIT))
      go true h = inl (eqb-true (verdict k e rows) 0 (sym (verdict-told k e rows) ∙ h))
      go false h = inr (⊎_elim (λ w. inl w.0) (λ w. inr w.0) (first-refused rows h).why)
