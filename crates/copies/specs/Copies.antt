-- 02 (v): append of one row n times, as a function of what is counted, the row and what the lent areas hold, for any numbers and all memory; said by single
-- rows. Assumes nothing.
use Rattle.std.specs.Prelude.{Option, Some, None, ℕ, zero, suc, Bool, cond, not, ◌&&◌, ℤ, length}
use Rattle.limits.specs.Refusals.{ITEM, DISAGREE}
use Rattle.encode.specs.declared.Kind.{Kind}
use Rattle.plain.specs.Rows.{Row, fits}
use Rattle.plain.specs.Plain.{item_of}
use Rattle.nullable.specs.Nullable.{presence}
use Rattle.format.specs.declared.Encoding.{Encoding}
use Rattle.needs.specs.declared.Counted.{Counted}
use Rattle.needs.specs.Needs.{coded, keyed, disagree}
use Rattle.step.specs.declared.Step.{Step}
use Rattle.step.specs.Steps.{run_open, step_of}
use Rattle.step.specs.Counting.{grown, next_of}
use Rattle.append.specs.Appending.{Lent, room_of, held_in, laid, Added, added_to, added_with}

-- what is counted, and what the areas hold
pub record Stage : Type 0 where
  pub counted : Counted
  pub areas : Lent

abbrev pub stage : Counted → Lent → Stage
stage r a = record { counted = r; areas = a }

-- one row more, counted in and written: whether its item is stored, whether it joins the last run, its key
unfoldable pub one_more : Kind → Encoding → Row → Bool → Bool → ℤ → Stage → Stage
one_more k e row item joins key g =
    stage (grown e g.counted (presence row) (length (item_of k row)) item joins) (laid k e g.counted row item joins key g.areas)

-- the same row behind itself: it joins its run while that can take one row more; else its item is stored again, but for an entry
unfoldable pub joins_again : Encoding → Counted → Bool
joins_again e r = coded e && run_open r

unfoldable pub stores_again : Encoding → Counted → Bool
stores_again e r = not (keyed e) && not (joins_again e r)

unfoldable pub once_more : Kind → Encoding → Row → ℤ → Stage → Stage
once_more k e row key g = one_more k e row (stores_again e g.counted) (joins_again e g.counted) key g

unfoldable pub times_more : Kind → Encoding → Row → ℤ → ℕ → Stage → Stage
times_more k e row key zero g = g
times_more k e row key (suc n) g = times_more k e row key n (once_more k e row key g)

-- n times: the first as an append finds it, the others behind it
unfoldable pub times : Kind → Encoding → Row → Bool → Bool → ℤ → ℕ → Stage → Stage
times k e row item joins key zero g = g
times k e row item joins key (suc n) g = times_more k e row key n (one_more k e row item joins key g)

-- ---- append of one row n times: 9 for the numbers, the areas and the fields, 2; 3 and 4 for all n rows; a refusal gives back what it was given
unfoldable pub added_times_by : Kind → Encoding → Counted → Lent → ℕ → Row → Option Step → Added
added_times_by k e r a n row None = added_to (next_of DISAGREE r) a
added_times_by k e r a n row (Some s) =
    cond (not (fits k row)) (added_to (next_of ITEM r) a)
    (added_with k e r a (times k e row s.stored s.joins s.key n (stage r a)).counted
    (times k e row s.stored s.joins s.key n (stage r a)).areas)

unfoldable pub added_times : Kind → Encoding → Counted → Lent → ℕ → Row → Added
added_times k e r a n row =
    cond (disagree k e r (room_of a)) (added_to (next_of DISAGREE r) a)
    (added_times_by k e r a n row (step_of k e r (held_in a) a.keys row))
