-- 02 (v): n copies of a row and then m copies are accepted exactly when n + m copies are, and leave the same numbers and areas. For any numbers and all
-- memory. Assumes nothing.
use Prim.Native.Nat.{ℕ, zero, suc, ◌+◌}
use native.Mathlib.Nat.{zero-add}
use mathlib.Core.Bool.{Bool}
use mathlib.Core.Path.{◌≡◌, sym, ap, subst, ◌∙◌}
use lib.IntN.{ℤ}
use Rattle.encode.specs.declared.Kind.{Kind}
use Rattle.plain.specs.Rows.{Row}
use Rattle.format.specs.declared.Encoding.{Encoding}
use Rattle.needs.specs.declared.Counted.{Counted}
use Rattle.step.specs.Counting.{next_of}
use Rattle.append.specs.Appending.{Lent, room_of, Added, added_to, added_with}
use Rattle.append.specs.Asking.{Found}
use Rattle.copies.specs.Copies.{Stage, stage, times_more, times, added_times}
use Rattle.copies_laws.specs.Wanted.{AddUp}
use Rattle.copies_laws.proofs.Answers.{accepts, accepted, found-answer, found_none, with-done, with-within}
use Rattle.copies_laws.proofs.Repeating.{Within, within_first, times-add, ready-answer, ready-done, ready-times}

module _ (k : Kind) (e : Encoding) (r : Counted) (a : Lent) (row : Row) where
  abbrev number : Added → ℕ
  number x = x.answer.number

  -- m copies more, after an answer
  abbrev then : ℕ → Added → Added
  then m x = added_times k e x.answer.counted x.areas m row

  -- ---- no copies, and then m
  none_then : (m : ℕ) → added_times k e r a 0 row ≡ added_to (next_of 0 r) a → then m (added_times k e r a 0 row) ≡ added_times k e r a (0 + m) row
  none_then m q = ap (then m) q ∙ ap (λ (i : ℕ). added_times k e r a i row) (sym (zero-add m))

  none_more : (m : ℕ) → AddUp k e r a 0 m row
  none_more m = (
    λ p q. none_then m (found_none k e r a row (accepts k e r a 0 row p).found),
    λ p.
        let z = found_none k e r a row (accepts k e r a (0 + m) row p).found in
        (ap number z, ap number (none_then m z) ∙ p),
  )

  -- ---- some copies, and then m: what is found for the first row, and that all of them are within the limits and have room
  module _ (n m : ℕ) {item joins : Bool} {key : ℤ} (f : Found k e r a row item joins key)
      (w : Within k e (room_of a) (times_more k e row key m (times k e row item joins key (suc n) (stage r a)))) where
    abbrev middle : Stage
    middle = times k e row item joins key (suc n) (stage r a)

    abbrev last : Stage
    last = times_more k e row key m middle

    all_done : added_times k e r a (suc n + m) row ≡ added_to (next_of 0 last.counted) last.areas
    all_done =
        found-answer k e r a (suc n + m) row f
        ∙ ap (λ (t : Stage). added_with k e r a t.counted t.areas) (times-add k e row key item joins n m (stage r a))
        ∙ with-done k e r a last.counted last.areas w.0 w.1

    first_done : added_times k e r a (suc n) row ≡ added_to (next_of 0 middle.counted) middle.areas
    first_done =
        let v = within_first k e row key (room_of a) m middle w in
        found-answer k e r a (suc n) row f ∙ with-done k e r a middle.counted middle.areas v.0 v.1

    then-done : then m (added_times k e r a (suc n) row) ≡ added_to (next_of 0 last.counted) last.areas
    then-done =
        let o = ready-times k e row key r a item joins f n (within_first k e row key (room_of a) m middle w) in
        ap (then m) first_done ∙ ready-done k e row key m middle o.0 (rw o.1 w)

  some_more : (n m : ℕ) → AddUp k e r a (suc n) m row
  some_more n m = (
    λ p q.
        let g = accepts k e r a (suc n) row p in
        let t = times k e row g.item g.joins g.key (suc n) (stage r a) in
        let o = ready-times k e row g.key r a g.item g.joins g.found n (g.within, g.room) in
        let l = times_more k e row g.key m t in
        let v = ready-answer k e row g.key m t o.0 in
        let y = ap (then m) (accepted k e r a (suc n) row g) ∙ v in
        let w = with-within k e t.counted t.areas l.counted l.areas (sym (ap number y) ∙ q) in
        let u : Within k e (room_of a) l = rw o.1 at w in
        then-done n m g.found u ∙ sym (all_done n m g.found u),
    λ p.
        let g = accepts k e r a (suc n + m) row p in
        let q = times-add k e row g.key g.item g.joins n m (stage r a) in
        let u = subst (λ (t : Stage). Within k e (room_of a) t) q (g.within, g.room) in
        (ap number (first_done n m g.found u), ap number (then-done n m g.found u)),
  )

  pub copies-add-up : (n m : ℕ) → AddUp k e r a n m row
  copies-add-up zero m = none_more m
  copies-add-up (suc n) m = some_more n m
