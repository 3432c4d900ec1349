-- 02 (v): n copies of a row, n at least 1, are accepted exactly when n appends of it are, one after the other, and leave the same numbers and areas. For any
-- numbers and all memory. Assumes nothing.
use Prim.Native.Nat.{ℕ, zero, suc}
use mathlib.Core.Bool.{Bool, true, false, cond}
use mathlib.Core.Path.{◌≡◌, refl, sym, ap, ◌∙◌}
use lib.Dec.{eqb}
use lib.IntN.{ℤ}
use borrow.Author.Tests.{eqb-true}
use Rattle.encode.specs.declared.Kind.{Kind}
use Rattle.plain.specs.Rows.{Row}
use Rattle.format.specs.declared.Encoding.{Encoding}
use Rattle.needs.specs.declared.Counted.{Counted}
use Rattle.step.specs.Counting.{next_of}
use Rattle.append.specs.Appending.{Lent, room_of, Added, added_to, added}
use Rattle.append.specs.Asking.{Found}
use Rattle.copies.specs.Copies.{Stage, stage, one_more, once_more, times_more, times, added_times}
use Rattle.copies_laws.specs.Singles.{singles}
use Rattle.copies_laws.specs.Wanted.{Accepted, AreAppends}
use Rattle.copies_laws.proofs.Answers.{once, within-limits, with-room, Accepts, accepts, found-answer, with-done, with-within}
use Rattle.copies_laws.proofs.Repeating.{Within, within_first, Ready, ready-answer, ready-done, ready-once, ready-first}

module _ (k : Kind) (e : Encoding) (row : Row) where
  -- ---- an append that is accepted, and then n of them
  abbrev singles_after : ℕ → Added → Added
  singles_after n x = singles k e row n x.answer.counted x.areas

  next-single : (n : ℕ) (r : Counted) (a : Lent) (g : Stage) → added k e r a row ≡ added_to (next_of 0 g.counted) g.areas
      → singles k e row (suc n) r a ≡ singles k e row n g.counted g.areas
  unfolding singles
  next-single n r a g q = rw q

  -- all are accepted only if the first is
  first-single : (n : ℕ) (r : Counted) (a : Lent) → Accepted (singles k e row (suc n) r a) → Accepted (added k e r a row)
  unfolding singles
  first-single n r a h = go (eqb (added k e r a row).answer.number 0) refl h
    where
      go : (t : Bool) → eqb (added k e r a row).answer.number 0 ≡ t → Accepted (cond t (singles_after n (added k e r a row)) (added k e r a row))
          → Accepted (added k e r a row)
      go true p h = eqb-true (added k e r a row).answer.number 0 p
      go false p h = h

  once-accepts : (r : Counted) (a : Lent) → Accepted (added k e r a row) → Accepts k e r a 1 row
  once-accepts r a h = accepts k e r a 1 row (ap (λ (x : Added). x.answer.number) (once k e r a row) ∙ h)

  module _ (key : ℤ) where
    -- ---- from a stage at which an append of the row finds just that it comes once more
    once-done : (g : Stage) → Ready k e row key g → Within k e (room_of g.areas) (once_more k e row key g)
        → added k e g.counted g.areas row ≡ added_to (next_of 0 (once_more k e row key g).counted) (once_more k e row key g).areas
    unfolding times_more
    once-done g f w = sym (once k e g.counted g.areas row) ∙ ready-done k e row key 1 g f w

    singles-done : (n : ℕ) (g : Stage) → Ready k e row key g → Within k e (room_of g.areas) (times_more k e row key n g)
        → singles k e row n g.counted g.areas ≡ added_to (next_of 0 (times_more k e row key n g).counted) (times_more k e row key n g).areas
    unfolding singles times_more
    singles-done zero g f w = refl
    singles-done (suc n) g f w =
        let v = within_first k e row key (room_of g.areas) n (once_more k e row key g) w in
        let o = ready-once k e row key g f v in
        next-single n g.counted g.areas (once_more k e row key g) (once-done g f v)
        ∙ singles-done n (once_more k e row key g) o.0 (rw o.1 w)

    once-within : (g : Stage) → Ready k e row key g → Accepted (added k e g.counted g.areas row) → Within k e (room_of g.areas) (once_more k e row key g)
    unfolding times_more
    once-within g f h =
        let t = once_more k e row key g in
        let q = sym (ready-answer k e row key 1 g f) ∙ once k e g.counted g.areas row in
        with-within k e g.counted g.areas t.counted t.areas (ap (λ (x : Added). x.answer.number) q ∙ h)

    singles-within : (n : ℕ) (g : Stage) → Ready k e row key g → Accepted (singles k e row n g.counted g.areas)
        → Within k e (room_of g.areas) (times_more k e row key n g)
    unfolding times_more
    singles-within zero g f h = (within-limits k e g.counted g.areas f.agrees, with-room k e g.counted g.areas f.agrees)
    singles-within (suc n) g f h =
        let t = once_more k e row key g in
        let v = once-within g f (first-single n g.counted g.areas h) in
        let o = ready-once k e row key g f v in
        let q = next-single n g.counted g.areas t (once-done g f v) in
        rw o.1 at (singles-within n t o.0 (sym (ap (λ (x : Added). x.answer.number) q) ∙ h))

  -- ---- from any numbers and areas
  module _ (r : Counted) (a : Lent) (n : ℕ) {item joins : Bool} {key : ℤ} (f : Found k e r a row item joins key) where
    abbrev first : Stage
    first = one_more k e row item joins key (stage r a)

    module _ (v : Within k e (room_of a) first) where
      first_done : added k e r a row ≡ added_to (next_of 0 first.counted) first.areas
      unfolding times times_more
      first_done =
          sym (once k e r a row) ∙ found-answer k e r a 1 row f ∙ with-done k e r a first.counted first.areas v.0 v.1

      then-singles : singles k e row (suc n) r a ≡ singles k e row n first.counted first.areas
      then-singles = next-single n r a first first_done

      all-within : Accepted (singles k e row (suc n) r a) → Within k e (room_of a) (times_more k e row key n first)
      all-within h =
          let o = ready-first k e row key r a item joins f v in
          rw o.1 at (singles-within key n first o.0 (sym (ap (λ (x : Added). x.answer.number) then-singles) ∙ h))

    same-done : Within k e (room_of a) (times_more k e row key n first) → added_times k e r a (suc n) row ≡ singles k e row (suc n) r a
    unfolding times
    same-done w =
        let v = within_first k e row key (room_of a) n first w in
        let o = ready-first k e row key r a item joins f v in
        let t = times_more k e row key n first in
        found-answer k e r a (suc n) row f
        ∙ with-done k e r a t.counted t.areas w.0 w.1
        ∙ sym (then-singles v ∙ singles-done key n first o.0 (rw o.1 w))

pub copies-are-appends : (k : Kind) (e : Encoding) (r : Counted) (a : Lent) (row : Row) (n : ℕ) → AreAppends k e r a n row
unfolding times times_more
copies-are-appends k e r a row n = (
  λ h.
      let g = once-accepts k e row r a (first-single k e row n r a h) in
      same-done k e row r a n g.found (all-within k e row r a n g.found (g.within, g.room) h),
  λ h.
      let g = accepts k e r a (suc n) row h in
      sym (same-done k e row r a n g.found (g.within, g.room)),
)
