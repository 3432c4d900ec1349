-- A row counted in and written n times: the numbers only grow, n and m times are n + m times, and at each stage on the way the next append of the row finds
-- just what `once_more` says. For any numbers and all memory. Assumes nothing.
use Prim.Native.Nat.{ℕ, zero, suc, ◌+◌}
use native.Mathlib.Nat.{zero-add, suc-add}
use mathlib.Core.Bool.{Bool, false}
use mathlib.Core.Path.{◌≡◌, refl, ap, ◌∙◌}
use lib.IntN.{ℤ}
use lib.ListN.{length}
use Rattle.encode.specs.declared.Kind.{Kind}
use Rattle.plain.specs.Rows.{Row}
use Rattle.plain.specs.Plain.{item_of}
use Rattle.nullable.specs.Nullable.{presence}
use Rattle.format.specs.declared.Encoding.{Encoding}
use Rattle.needs.specs.declared.Counted.{Counted}
use Rattle.needs.specs.declared.Room.{Room}
use Rattle.needs.specs.Needs.{past_limits, too_short}
use Rattle.step.specs.Counting.{next_of}
use Rattle.append.specs.Appending.{Lent, room_of, added_to, added_with}
use Rattle.append.specs.Asking.{Found}
use Rattle.copies.specs.Copies.{Stage, stage, one_more, joins_again, stores_again, once_more, times_more, times, added_times}
use Rattle.copies.proofs.Growing.{NoLess, no-less-itself, no-less-then, grown-no-less, within-before, room-before}
use Rattle.copies_laws.proofs.Answers.{found-answer, with-done}
use Rattle.copies_laws.proofs.FoundAgain.{room-again, found-next}

module _ (k : Kind) (e : Encoding) where
  -- a stage is within the limits and has room
  abbrev pub Within : Room → Stage → Type 0
  Within m g = (past_limits k e g.counted ≡ false) × (too_short k e g.counted m ≡ false)

  module _ (row : Row) (key : ℤ) where
    -- ---- the numbers only grow
    more-no-less : (n : ℕ) (g : Stage) → NoLess g.counted (times_more k e row key n g).counted
    unfolding times_more once_more one_more
    more-no-less zero g = no-less-itself g.counted
    more-no-less (suc n) g =
        no-less-then
        (grown-no-less e g.counted (presence row) (length (item_of k row)) (stores_again e g.counted) (joins_again e g.counted))
        (more-no-less n (once_more k e row key g))

    pub within_first : (m : Room) (n : ℕ) (g : Stage) → Within m (times_more k e row key n g) → Within m g
    within_first m n g w =
        let l = more-no-less n g in
        let t = times_more k e row key n g in
        (within-before k e g.counted t.counted l w.0, room-before k e g.counted t.counted l m w.1)

    -- ---- n times, and then m times
    more-add : (n m : ℕ) (g : Stage) → times_more k e row key (n + m) g ≡ times_more k e row key m (times_more k e row key n g)
    unfolding times_more
    more-add zero m g = ap (λ (i : ℕ). times_more k e row key i g) (zero-add m)
    more-add (suc n) m g = ap (λ (i : ℕ). times_more k e row key i g) (suc-add n m) ∙ more-add n m (once_more k e row key g)

    pub times-add : (item joins : Bool) (n m : ℕ) (g : Stage)
        → times k e row item joins key (suc n + m) g ≡ times_more k e row key m (times k e row item joins key (suc n) g)
    unfolding times
    times-add item joins n m g =
        ap (λ (i : ℕ). times k e row item joins key i g) (suc-add n m) ∙ more-add n m (one_more k e row item joins key g)

    -- ---- a stage at which an append of the row finds just that it comes once more
    abbrev pub Ready : Stage → Type 0
    Ready g = Found k e g.counted g.areas row (stores_again e g.counted) (joins_again e g.counted) key

    times-again : (n : ℕ) (g : Stage) → times k e row (stores_again e g.counted) (joins_again e g.counted) key n g ≡ times_more k e row key n g
    unfolding times times_more once_more
    times-again zero g = refl
    times-again (suc n) g = refl

    pub ready-answer : (n : ℕ) (g : Stage) → Ready g
        → added_times k e g.counted g.areas n row
        ≡ added_with k e g.counted g.areas (times_more k e row key n g).counted (times_more k e row key n g).areas
    ready-answer n g f =
        found-answer k e g.counted g.areas n row f
        ∙ ap (λ (t : Stage). added_with k e g.counted g.areas t.counted t.areas) (times-again n g)

    pub ready-done : (n : ℕ) (g : Stage) → Ready g → Within (room_of g.areas) (times_more k e row key n g)
        → added_times k e g.counted g.areas n row ≡ added_to (next_of 0 (times_more k e row key n g).counted) (times_more k e row key n g).areas
    ready-done n g f w =
        let t = times_more k e row key n g in
        ready-answer n g f ∙ with-done k e g.counted g.areas t.counted t.areas w.0 w.1

    -- it stays so, on areas that are as long
    pub ready-once : (g : Stage) → Ready g → Within (room_of g.areas) (once_more k e row key g)
        → Ready (once_more k e row key g) × (room_of (once_more k e row key g).areas ≡ room_of g.areas)
    unfolding once_more one_more
    ready-once g f w = (found-next k e g.counted g.areas row f w.0 w.1, room-again k e g.counted g.areas row f w.0 w.1)

    ready-more : (n : ℕ) (g : Stage) → Ready g → Within (room_of g.areas) (times_more k e row key n g)
        → Ready (times_more k e row key n g) × (room_of (times_more k e row key n g).areas ≡ room_of g.areas)
    unfolding times_more
    ready-more zero g f w = (f, refl)
    ready-more (suc n) g f w =
        let o = ready-once g f (within_first (room_of g.areas) n (once_more k e row key g) w) in
        let t = ready-more n (once_more k e row key g) o.0 (rw o.1 w) in
        (t.0, t.1 ∙ o.1)

    -- ---- from what the first append finds
    module _ (r : Counted) (a : Lent) (item joins : Bool) (f : Found k e r a row item joins key) where
      pub ready-first : Within (room_of a) (one_more k e row item joins key (stage r a))
          → Ready (one_more k e row item joins key (stage r a)) × (room_of (one_more k e row item joins key (stage r a)).areas ≡ room_of a)
      unfolding one_more
      ready-first w = (found-next k e r a row f w.0 w.1, room-again k e r a row f w.0 w.1)

      pub ready-times : (n : ℕ) → Within (room_of a) (times k e row item joins key (suc n) (stage r a))
          → Ready (times k e row item joins key (suc n) (stage r a)) × (room_of (times k e row item joins key (suc n) (stage r a)).areas ≡ room_of a)
      unfolding times
      ready-times n w =
          let g = one_more k e row item joins key (stage r a) in
          let o = ready-first (within_first (room_of a) n g w) in
          let t = ready-more n g o.0 (rw o.1 w) in
          (t.0, t.1 ∙ o.1)
