-- The next byte where ends or the trailer are waited for: the verdict owed stays, and the stage fits the bytes to come. Assumes nothing.
use Prim.Native.Nat.{ℕ, zero, suc, ◌+◌, ◌-◌, ◌*◌, ◌≤◌, ◌<◌}
use native.Mathlib.Omega.{arith}
use mathlib.Core.Bool.{Bool, true, false, cond, not, ◌&&◌}
use mathlib.Core.List.{List, [], ◌∷◌, ◌++◌, append-nil}
use mathlib.Core.Path.{◌≡◌, refl, sym, ◌∙◌}
use lib.Dec.{leb, eqb}
use lib.ListN.{length, drop_of_length-le}
use borrow.Author.Tests.{leb-true, leb-false}
use Rattle.encode.specs.Bytes.{number}
use Rattle.encode.specs.declared.Kind.{Kind}
use Rattle.limits.specs.Refusals.{LENGTH, ENDS}
use Rattle.plain.specs.Rules.{◌if◌, first_of}
use Rattle.plain.specs.Plain.{ends_of, rising, last_of}
use Rattle.format.specs.declared.Encoding.{Encoding}
use Rattle.format.proofs.Answers.{first_one}
use Rattle.arriving.specs.Stages.{Stage, Ends, Trailer}
use Rattle.arriving.specs.Arriving.{Waiting, waiting, settled, ends_from, field_of, acted, pushed, stepped_by}
use Rattle.arriving_laws.specs.Owed.{trailed_by, owed_by, owed, tail_of, Fits}
use Rattle.arriving_laws.proofs.Fields.{one_more, length_more, pushed-either, trailer-behind, trailer-whole, trailed-behind, ends_more}
use Rattle.arriving_laws.proofs.Steps.{StepOwed, StepFits}
use Rattle.arriving_laws.proofs.Plains.{settled-owed, settled-fits, ends-owed, ends-fits}

-- ---- ends
module _ (k : Kind) (e : Encoding) (n last data' bits : ℕ) where
  -- a whole end, f, before the rest
  module _ (left : ℕ) (f bs : List ℕ) (four : length f ≡ 4) (room : length bs ≡ 4 * left + data' + tail_of e bits) where
    whole-end-owed : owed_by k e n (Ends (suc left) last data' bits) f bs ≡ owed_by k e n (acted k e n (length bs) (Ends (suc left) last data' bits) f) [] bs
    unfolding owed_by acted rising last_of first_of
    whole-end-owed =
        let one : suc left - 1 ≡ left = omega arith in
        trailed-behind e bits f bs _ (omega arith)
        ∙ rw (ends_more f bs left four, one) (by (leb last (number f) && leb (number f) data'))
      where
        es : List ℕ
        es = ends_of left bs

        by : (t : Bool)
            → trailed_by e bits bs (first_of (ENDS if not (t && rising (number f) data' es) ∷ LENGTH if not (eqb (last_of (number f) es) data') ∷ []))
            ≡ owed_by k e n (cond t (ends_from e bits left (number f) data') (settled e bits ENDS)) [] bs
        by true = sym (ends-owed k e n bits left (number f) data' bs)
        by false = sym (settled-owed k e n bits ENDS bs)

    whole-end-fits : Fits k e (acted k e n (length bs) (Ends (suc left) last data' bits) f) [] (length bs)
    unfolding acted
    whole-end-fits = let one : suc left - 1 ≡ left = omega arith in rw one (by (leb last (number f) && leb (number f) data'))
      where
        by : (t : Bool) → Fits k e (cond t (ends_from e bits left (number f) data') (settled e bits ENDS)) [] (length bs)
        by true = ends-fits k e bits left (number f) data' (length bs) room
        by false = settled-fits k e bits ENDS (length bs) (omega arith)

  -- any byte of an end; there is an end to come
  module _ (left : ℕ) (held : List ℕ) (b : ℕ) (bs : List ℕ) (h : Fits k e (Ends (suc left) last data' bits) held (suc (length bs))) where
    abbrev ends : Stage
    ends = Ends (suc left) last data' bits

    abbrev end-bytes : List ℕ
    end-bytes = held ++ (b ∷ [])

    room : length end-bytes ≡ 4 → length bs ≡ 4 * left + data' + tail_of e bits
    unfolding Fits
    room four = let r = h.2 in omega (arith, length_more held b)

    more-ends-owed : owed_by k e n ends held (b ∷ bs) ≡ owed k e n (stepped_by k e n (length bs) ends held b) bs
    unfolding stepped_by field_of
    more-ends-owed =
        pushed-either (λ w. owed_by k e n ends held (b ∷ bs) ≡ owed k e n w bs) k e n (length bs) ends end-bytes
        (λ four. pushed-owed ∙ whole-end-owed left end-bytes bs four (room four))
        (λ part. pushed-owed)
      where
        pushed-owed : owed_by k e n ends held (b ∷ bs) ≡ owed_by k e n ends end-bytes bs
        pushed-owed = unfold owed_by in rw (one_more held bs b)

    more-ends-fits : let w : Waiting = stepped_by k e n (length bs) ends held b in Fits k e w.stage w.held (length bs)
    unfolding stepped_by field_of Fits
    more-ends-fits =
        pushed-either (λ w. Fits k e w.stage w.held (length bs)) k e n (length bs) ends end-bytes
        (λ four. whole-end-fits left end-bytes bs four (room four))
        (λ part. let l = length_more held b in let r = h in (omega arith, omega arith, omega arith))

module _ (k : Kind) (e : Encoding) (n : ℕ) where
  pub ends-step-owed : (left last data' bits : ℕ) (held : List ℕ) (b : ℕ) (bs : List ℕ) → StepOwed k n (Ends left last data' bits) held b bs e
  ends-step-owed zero last data' bits held b bs h = unfold Fits in absurd (omega (arith, h.0))
  ends-step-owed (suc left) last data' bits held b bs h = more-ends-owed k e n last data' bits left held b bs h

  pub ends-step-fits : (left last data' bits : ℕ) (held : List ℕ) (b : ℕ) (bs : List ℕ) → StepFits k n (Ends left last data' bits) held b bs e
  ends-step-fits zero last data' bits held b bs h = unfold Fits in absurd (omega (arith, h.0))
  ends-step-fits (suc left) last data' bits held b bs h = more-ends-fits k e n last data' bits left held b bs h

-- ---- the trailer
-- the trailer decides, then the number that was kept
trailer-decides : (t : Bool) (later : ℕ) → first_of (LENGTH if not t ∷ later ∷ []) ≡ cond t later LENGTH
unfolding first_of
trailer-decides true later = first_one later
trailer-decides false later = refl

module _ (k : Kind) (e : Encoding) (n bits later : ℕ) (held : List ℕ) (b : ℕ) (bs : List ℕ) (h : Fits k e (Trailer bits later) held (suc (length bs))) where
  abbrev trailer : Stage
  trailer = Trailer bits later

  abbrev trailer-bytes : List ℕ
  trailer-bytes = held ++ (b ∷ [])

  -- one byte more, if less than four are to come
  length-field : length bs < 4 → length trailer-bytes ≡ 4 - length bs
  unfolding Fits
  length-field l = let r = h.2 in omega (arith, length_more held b)

  -- all four
  whole-trailer-owed : length bs < 4 → length trailer-bytes ≡ 4 → owed_by k e n trailer trailer-bytes bs ≡ owed_by k e n (acted k e n (length bs) trailer trailer-bytes) [] bs
  unfolding owed_by acted
  whole-trailer-owed l four =
      let g : length bs ≤ 0 = omega (arith, length-field l) in
      let z : bs ≡ [] = drop_of_length-le bs g in
      rw (z, append-nil, trailer-whole trailer-bytes four) (trailer-decides (eqb (number trailer-bytes) bits) later)

  pub trailer-step-owed : owed_by k e n trailer held (b ∷ bs) ≡ owed k e n (stepped_by k e n (length bs) trailer held b) bs
  unfolding stepped_by field_of
  trailer-step-owed = pushed-owed ∙ by (leb 4 (length bs)) refl
    where
      pushed-owed : owed_by k e n trailer held (b ∷ bs) ≡ owed_by k e n trailer trailer-bytes bs
      pushed-owed = unfold owed_by in rw (one_more held bs b)

      by : (t : Bool) → leb 4 (length bs) ≡ t → owed_by k e n trailer trailer-bytes bs ≡ owed k e n (cond t (waiting trailer []) (pushed k e n (length bs) trailer trailer-bytes)) bs
      by true l = unfold owed_by in rw (trailer-behind trailer-bytes bs (leb-true 4 (length bs) l))
      by false l =
          pushed-either (λ w. owed_by k e n trailer trailer-bytes bs ≡ owed k e n w bs) k e n (length bs) trailer trailer-bytes
          (λ four. whole-trailer-owed (leb-false 4 (length bs) l) four)
          (λ part. refl)

  pub trailer-step-fits : let w : Waiting = stepped_by k e n (length bs) trailer held b in Fits k e w.stage w.held (length bs)
  unfolding stepped_by field_of Fits acted
  trailer-step-fits = by (leb 4 (length bs)) refl
    where
      by : (t : Bool) → leb 4 (length bs) ≡ t
          → let w : Waiting = cond t (waiting trailer []) (pushed k e n (length bs) trailer trailer-bytes) in Fits k e w.stage w.held (length bs)
      by true l = let g = leb-true 4 (length bs) l in (h.0, omega arith, omega arith)
      by false l =
          let g = length-field (leb-false 4 (length bs) l) in
          pushed-either (λ w. Fits k e w.stage w.held (length bs)) k e n (length bs) trailer trailer-bytes
          (λ four. refl)
          (λ part. (h.0, omega arith, g))
