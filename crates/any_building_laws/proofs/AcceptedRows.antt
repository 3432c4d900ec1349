-- The rows that any calls accept are an accepted list: each fits its kind, and with each the list stayed within the limits. Assumes nothing.
use Prim.Native.Nat.{ℕ, zero, suc}
use native.Mathlib.Omega.{arith}
use mathlib.Core.Bool.{Bool, true, false}
use mathlib.Core.List.{List, [], ◌∷◌, ◌++◌, append_assoc, append-nil}
use mathlib.Core.Path.{◌≡◌, refl, sym, ap, subst, ◌∙◌}
use lib.Dec.{eqb}
use lib.ListN.{replicate}
use borrow.Author.Tests.{eqb-true}
use Rattle.encode.specs.declared.Kind.{Kind}
use Rattle.plain.specs.Rows.{Row, fits}
use Rattle.plain.specs.Each.{Each}
use Rattle.plain.proofs.Each.{each_append}
use Rattle.format.specs.declared.Encoding.{Encoding}
use Rattle.format.specs.Sizes.{within_limits, all_fit, accepted}
use Rattle.format.proofs.Within.{none_within}
use Rattle.needs.specs.declared.Room.{Room}
use Rattle.append.specs.Appending.{Lent, room_of}
use Rattle.building_laws.specs.Built.{Given, row_in}
use Rattle.building_laws.proofs.Prefixes.{prefix-within}
use Rattle.building_laws.proofs.Verdict.{accepted-snoc}
use Rattle.any_building_laws.specs.BuilderCalls.{Ask, append, finish, estimate, should_finish_before, Call, need_of, below, append_number, accepted_by, accepted_in}

module _ (k : Kind) (e : Encoding) where
  -- a row whose append is 0 fits, and n of it are within the limits with those before them
  fit-and-within : (rows : List Row) (n : ℕ) (x : Row) (m : Room) → append_number k e rows n x m ≡ 0
      → (fits k x ≡ true) × (within_limits k e (rows ++ replicate n x) ≡ true)
  unfolding append_number
  fit-and-within rows n x m h = go (fits k x) (within_limits k e more) (below (need_of k e more) m) refl refl refl
    where
      more : List Row
      more = rows ++ replicate n x

      go : (f w s : Bool) → fits k x ≡ f → within_limits k e more ≡ w → below (need_of k e more) m ≡ s → (fits k x ≡ true) × (within_limits k e more ≡ true)
      go false w s p q z = absurd (omega (arith, simp p at h))
      go true false true p q z = absurd (omega (arith, simp (p, q, z) at h))
      go true false false p q z = absurd (omega (arith, simp (p, q, z) at h))
      go true true s p q z = (p, q)

  -- ---- what each accepted row leaves true is true of them all
  module _ (P : List Row → Type 0)
      (one_more_lem : (rows : List Row) (x : Row) → P rows → fits k x ≡ true → within_limits k e (rows ++ (x ∷ [])) ≡ true → P (rows ++ (x ∷ []))) where
    after-copies : (n : ℕ) (rows : List Row) (x : Row) → P rows → fits k x ≡ true → within_limits k e (rows ++ replicate n x) ≡ true → P (rows ++ replicate n x)
    after-copies zero rows x h f w = subst P (sym (append-nil rows)) h
    after-copies (suc n) rows x h f w =
        let q = append_assoc rows (x ∷ []) (replicate n x) in
        let v : within_limits k e (rows ++ (x ∷ []) ++ replicate n x) ≡ true = ap (within_limits k e) q ∙ w in
        subst P q (after-copies n (rows ++ (x ∷ [])) x (one_more_lem rows x h f (prefix-within k e (rows ++ (x ∷ [])) (replicate n x) v)) f v)

    after-append : (rows : List Row) (a : Lent) (n : ℕ) (v : Given) → P rows → P (accepted_by k e rows a (append n v))
    unfolding accepted_by
    after-append rows a n v h = go (eqb (append_number k e rows n (row_in k v) (room_of a)) 0) refl
      where
        go : (t : Bool) → eqb (append_number k e rows n (row_in k v) (room_of a)) 0 ≡ t → P (accepted_by k e rows a (append n v))
        go true z =
            let fw = fit-and-within rows n (row_in k v) (room_of a) (eqb-true (append_number k e rows n (row_in k v) (room_of a)) 0 z) in
            rw z (after-copies n rows (row_in k v) h fw.0 fw.1)
        go false z = rw z h

    after_call : (rows : List Row) (a : Lent) (q : Ask) → P rows → P (accepted_by k e rows a q)
    unfolding accepted_by
    after_call rows a (append n v) h = after-append rows a n v h
    after_call rows a (finish out) h = h
    after_call rows a estimate h = h
    after_call rows a (should_finish_before v) h = h

    after-calls : (cs : List Call) (rows : List Row) → P rows → P (accepted_in k e rows cs)
    unfolding accepted_in
    after-calls [] rows h = h
    after-calls (c ∷ cs) rows h = after-calls cs (accepted_by k e rows c.areas c.ask) (after_call rows c.areas c.ask h)

  -- ---- from no rows on
  module _ (cs : List Call) where
    -- Each row that was accepted fits its kind, and all together are within the limits.
    pub accepted-rows-accepted : Each (λ x. fits k x ≡ true) (accepted_in k e [] cs) × (within_limits k e (accepted_in k e [] cs) ≡ true)
    accepted-rows-accepted = (
      after-calls (Each (λ x. fits k x ≡ true)) (λ rows x h f w. each_append (λ y. fits k y ≡ true) rows (x ∷ []) h (f, tt)) cs [] tt,
      after-calls (λ rows. within_limits k e rows ≡ true) (λ rows x h f w. w) cs [] (none_within k e),
    )

    -- They are an accepted list, as the theorems on one list of appends and on our blocks have it.
    pub accepted-list : accepted k e (accepted_in k e [] cs) ≡ true
    unfolding accepted all_fit
    accepted-list = after-calls (λ rows. accepted k e rows ≡ true) (accepted-snoc k e) cs [] (none_within k e)
