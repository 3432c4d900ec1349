-- A byte of char items: the verdict owed stays what it was, and what a check keeps while it waits stays true. Assumes nothing.
use Prim.Native.Nat.{ℕ, zero, suc, ◌+◌, ◌-◌, ◌*◌, ◌<◌}
use native.Mathlib.Nat.{suc-mul, zero-mul}
use native.Mathlib.Omega.{arith}
use mathlib.Core.Bool.{Bool, true, false, cond, not}
use mathlib.Core.List.{List, [], ◌∷◌, ◌++◌}
use mathlib.Core.Logic.{◌⊎◌, inl, inr}
use mathlib.Core.Path.{◌≡◌, refl, sym, ap, subst, ◌∙◌}
use borrow.Author.Tests.{eqb-true, eqb-false}
use lib.Dec.{eqb}
use lib.ListN.{length, take}
use Rattle.limits.specs.Refusals.{TEXT}
use Rattle.encode.specs.declared.Kind.{Kind}
use Rattle.encode.proofs.Bools.{clash}
use Rattle.utf8.specs.Utf8.{Due, due, never, after}
use Rattle.plain.specs.Rules.{◌if◌}
use Rattle.format.specs.declared.Encoding.{Encoding}
use Rattle.arriving.specs.Stages.{Chars}
use Rattle.arriving.specs.Arriving.{Waiting, waiting, settled, chars_from, item_ends, text_read, char_read, width_in, stepped_by}
use Rattle.arriving_laws.specs.Owed.{Place, on, bad, place_behind, sequence_behind, is_on, next_place, places_behind, text_from, trailed_by, tail_of, Begun, owed_by, owed, Fits}
use Rattle.arriving_laws.proofs.Fields.{trailed-behind}
use Rattle.arriving_laws.proofs.Plains.{settled-owed, settled-fits}
use Rattle.arriving_laws.proofs.Texts.{Held, bad-stays}
use Rattle.arriving_laws.proofs.Steps.{StepOwed, StepFits}

-- ---- what is waited for at a place, where l bytes of the items are to come
module _ (e : Encoding) (bits l : ℕ) where
  unfoldable waiting_at : Place → Waiting
  waiting_at bad = waiting (settled e bits TEXT) []
  waiting_at (on at ended held) = waiting (chars_from e bits l at ended) held

  module _ (w at : ℕ) where
    ends_at : (ended : Bool) (held : List ℕ) → item_ends e w bits l at ended held ≡ waiting_at (place_behind w at ended held)
    unfolding item_ends place_behind waiting_at
    ends_at ended held = by (eqb (at + 1) w) (eqb (length held) 0)
      where
        by : (t u : Bool)
            → cond t (cond u (waiting (chars_from e bits l 0 false) []) (waiting (settled e bits TEXT) [])) (waiting (chars_from e bits l (at + 1) ended) held)
            ≡ waiting_at (cond t (cond u (on 0 false []) bad) (on (at + 1) ended held))
        by true true = refl
        by true false = refl
        by false u = refl

    text_at : (held : List ℕ) (d : Due) → text_read e w bits l at held d ≡ waiting_at (sequence_behind w at held d)
    unfolding text_read sequence_behind waiting_at
    text_at held never = refl
    text_at held (due []) = ends_at false []
    text_at held (due (r ∷ rs)) = ends_at false held

    -- a byte read is the next place
    char-at : (ended : Bool) (held : List ℕ) (b : ℕ) → char_read e w bits l at ended held b ≡ waiting_at (next_place w (on at ended held) b)
    unfolding char_read next_place waiting_at
    char-at true held b = ends_at true []
    char-at false held b = by (eqb b 0) (eqb (length held) 0)
      where
        by : (t u : Bool)
            → cond t (cond u (item_ends e w bits l at true []) (waiting (settled e bits TEXT) []))
            (text_read e w bits l at (held ++ (b ∷ [])) (after (due []) (held ++ (b ∷ []))))
            ≡ waiting_at (cond t (cond u (place_behind w at true []) bad) (sequence_behind w at (held ++ (b ∷ [])) (after (due []) (held ++ (b ∷ [])))))
        by true true = ends_at true []
        by true false = refl
        by false u = text_at (held ++ (b ∷ [])) (after (due []) (held ++ (b ∷ [])))

-- ---- what is kept at a place: l bytes more end with an item's last one
unfoldable Kept : ℕ → ℕ → Place → Type 0
Kept w l bad = Unit
Kept w l (on at ended held) =
    (at < w) × (ended ≡ true → held ≡ []) × Held held × (((l ≡ 0) × (held ≡ [])) ⊎ ((j : ℕ) × (l ≡ (w - at) + j * w)))

module _ (w l at j : ℕ) (h : at < w) (m : suc l ≡ (w - at) + j * w) where
  -- an item's end is the start of the next one, if there is one
  start-kept : (i : ℕ) → l ≡ i * w → Kept w l (on 0 false [])
  unfolding Kept
  start-kept zero e = let z = zero-mul w in (omega arith, λ g. refl, inl refl, inl (omega arith, refl))
  start-kept (suc i) e = let z : suc i * w ≡ i * w + w = suc-mul i w in (omega arith, λ g. refl, inl refl, inr (i, omega arith))

  behind-kept : (ended : Bool) (held : List ℕ) → (ended ≡ true → held ≡ []) → Held held → Kept w l (place_behind w at ended held)
  unfolding place_behind
  behind-kept ended held f o = by (eqb (at + 1) w) refl (eqb (length held) 0)
    where
      by : (t : Bool) → eqb (at + 1) w ≡ t → (u : Bool) → Kept w l (cond t (cond u (on 0 false []) bad) (on (at + 1) ended held))
      by true e true = let z = eqb-true (at + 1) w e in start-kept j (omega arith)
      by true e false = unfold Kept in tt
      by false e u = let z = eqb-false (at + 1) w e in unfold Kept in (omega arith, f, o, inr (j, omega arith))

  sequence-kept : (held : List ℕ) (d : Due) → after (due []) held ≡ d → Kept w l (sequence_behind w at held d)
  unfolding sequence_behind Kept Begun
  sequence-kept held never e = tt
  sequence-kept held (due []) e = behind-kept false [] (λ g. refl) (inl refl)
  sequence-kept held (due (r ∷ rs)) e = behind-kept false held (λ g. clash (sym g)) (inr (r, rs, e))

  next-kept : (ended : Bool) (held : List ℕ) (b : ℕ) → Kept w l (next_place w (on at ended held) b)
  unfolding next_place
  next-kept true held b = behind-kept true [] (λ g. refl) (inl refl)
  next-kept false held b = by (eqb b 0) (eqb (length held) 0)
    where
      by : (t u : Bool) → Kept w l (cond t (cond u (place_behind w at true []) bad) (sequence_behind w at (held ++ (b ∷ [])) (after (due []) (held ++ (b ∷ [])))))
      by true true = behind-kept true [] (λ g. refl) (inl refl)
      by true false = unfold Kept in tt
      by false u = sequence-kept (held ++ (b ∷ [])) (after (due []) (held ++ (b ∷ []))) refl

-- ---- at a place, what is waited for owes what the place's text does, and fits
-- behind the last byte of all nothing is held
none-held : (w at : ℕ) (held : List ℕ) → at < w → ((zero ≡ 0) × (held ≡ [])) ⊎ ((j : ℕ) × (zero ≡ (w - at) + j * w)) → held ≡ []
none-held w at held h (inl e) = e.1
none-held w at held h (inr e) = absurd (omega (arith, e.1))

module _ (k : Kind) (e : Encoding) (bits : ℕ) where
  owed-at : (n l : ℕ) (p : Place) (bs : List ℕ) → Kept (width_in k) l p
      → owed k e n (waiting_at e bits l p) bs ≡ trailed_by e bits bs (TEXT if not (text_from (width_in k) p (take l bs)))
  unfolding waiting_at chars_from owed_by places_behind Kept
  owed-at n l bad bs g =
      settled-owed k e n bits TEXT bs ∙ ap (λ (p : Place). trailed_by e bits bs (TEXT if not (is_on p))) (sym (bad-stays (width_in k) (take l bs)))
  owed-at n zero (on at ended held) bs g =
      ap (λ (h : List ℕ). owed_by k e n (settled e bits 0) h bs) (none-held (width_in k) at held g.0 g.3) ∙ settled-owed k e n bits 0 bs
  owed-at n (suc l) (on at ended held) bs g = refl

  fits-at : (l m : ℕ) (p : Place) → Kept (width_in k) l p → m ≡ l + tail_of e bits → Fits k e (waiting_at e bits l p).stage (waiting_at e bits l p).held m
  unfolding waiting_at chars_from Fits Kept
  fits-at l m bad g h = settled-fits k e bits TEXT m (omega arith)
  fits-at zero m (on at ended held) g h =
      subst (λ (x : List ℕ). Fits k e (settled e bits 0) x m) (sym (none-held (width_in k) at held g.0 g.3)) (settled-fits k e bits 0 m (omega arith))
  fits-at (suc l) m (on at ended held) g h = by g.3
    where
      by : ((suc l ≡ 0) × (held ≡ [])) ⊎ ((j : ℕ) × (suc l ≡ (width_in k - at) + j * width_in k)) → Fits k e (Chars (suc l) at ended bits) held m
      by (inl z) = absurd (omega (arith, z.0))
      by (inr z) = (omega arith, g.0, h, g.1, g.2, z)

-- ---- a byte of char items
module _ (k : Kind) (e : Encoding) (n : ℕ) where
  stepped-at :
      (l at : ℕ) (ended : Bool) (bits : ℕ) (held : List ℕ) (b : ℕ) (bs : List ℕ)
      → stepped_by k e n (length bs) (Chars (suc l) at ended bits) held b ≡ waiting_at e bits l (next_place (width_in k) (on at ended held) b)
  unfolding stepped_by
  stepped-at l at ended bits held b bs =
      let p : suc l - 1 ≡ l = omega arith in
      ap (λ (i : ℕ). char_read e (width_in k) bits i at ended held b) p ∙ char-at e bits l (width_in k) at ended held b

  module _ (l at : ℕ) (ended : Bool) (bits : ℕ) (held : List ℕ) (m : ℕ) (f : Fits k e (Chars (suc l) at ended bits) held (suc m)) where
    kept-behind : (b : ℕ) → Kept (width_in k) l (next_place (width_in k) (on at ended held) b)
    unfolding Fits
    kept-behind b = next-kept (width_in k) l at f.5.0 f.1 f.5.1 ended held b

    left_behind : m ≡ l + tail_of e bits
    unfolding Fits
    left_behind = omega (arith, f.2)

  pub chars-step-owed :
      (left at : ℕ) (ended : Bool) (bits : ℕ) (held : List ℕ) (b : ℕ) (bs : List ℕ) → StepOwed k n (Chars left at ended bits) held b bs e
  unfolding owed_by Fits places_behind
  chars-step-owed zero at ended bits held b bs f = absurd (omega (arith, f.0))
  chars-step-owed (suc l) at ended bits held b bs f =
      let p : Place = next_place (width_in k) (on at ended held) b in
      let m : length bs ≡ l + tail_of e bits = left_behind l at ended bits held (length bs) f in
      trailed-behind e bits (b ∷ []) bs (TEXT if not (text_from (width_in k) p (take l bs))) (omega arith)
      ∙ sym (owed-at k e bits n l p bs (kept-behind l at ended bits held (length bs) f b))
      ∙ ap (λ (s : Waiting). owed k e n s bs) (sym (stepped-at l at ended bits held b bs))

  pub chars-step-fits :
      (left at : ℕ) (ended : Bool) (bits : ℕ) (held : List ℕ) (b : ℕ) (bs : List ℕ) → StepFits k n (Chars left at ended bits) held b bs e
  unfolding Fits
  chars-step-fits zero at ended bits held b bs f = absurd (omega (arith, f.0))
  chars-step-fits (suc l) at ended bits held b bs f =
      subst (λ (s : Waiting). Fits k e s.stage s.held (length bs)) (sym (stepped-at l at ended bits held b bs))
      (fits-at k e bits l (length bs) (next_place (width_in k) (on at ended held) b) (kept-behind l at ended bits held (length bs) f b)
      (left_behind l at ended bits held (length bs) f))
