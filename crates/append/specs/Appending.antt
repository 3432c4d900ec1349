-- 01, "Building": append as a function of what is counted, the row and what the lent areas hold, for any numbers and all memory. Assumes nothing.
use Rattle.std.specs.Prelude.{ℕ, ◌+◌, Option, Some, None, Bool, cond, not, ◌&&◌, List, ℤ, length, set}
use Rattle.limits.specs.Refusals.{ITEM, LIMIT, ROOM, DISAGREE}
use Rattle.area.specs.Area.{over}
use Rattle.encode.specs.declared.Kind.{Kind}
use Rattle.plain.specs.Rows.{Row, bytes_in, fits}
use Rattle.plain.specs.Plain.{item_of}
use Rattle.nullable.specs.Nullable.{presence}
use Rattle.lookup.specs.Held.{Held, held}
use Rattle.slots.specs.Slots.{ends_with, lens_with, flags_with, counts_with}
use Rattle.format.specs.declared.Encoding.{Encoding}
use Rattle.needs.specs.declared.Counted.{Counted}
use Rattle.needs.specs.declared.Room.{Room}
use Rattle.needs.specs.Needs.{coded, flagged, keyed, stored_by, past_limits, too_short, disagree}
use Rattle.step.specs.declared.Step.{Step}
use Rattle.step.specs.Steps.{step_of}
use Rattle.step.specs.Counting.{Next, grown, next_of}

-- the six lent areas: items (fixed and char items at their width, blob data), blob ends, flag bytes, run counts, keys of runs, char lengths
pub record Lent : Type 0 where
  pub items : List ℕ
  pub ends : List ℕ
  pub flags : List ℕ
  pub counts : List ℕ
  pub keys : List ℤ
  pub lens : List ℕ

abbrev pub lent : List ℕ → List ℕ → List ℕ → List ℕ → List ℤ → List ℕ → Lent
lent is es fs cs ks ls = record { items = is; ends = es; flags = fs; counts = cs; keys = ks; lens = ls }

-- how long each is
unfoldable pub room_of : Lent → Room
room_of a = record {
  items = length a.items;
  ends = length a.ends;
  flags = length a.flags;
  counts = length a.counts;
  keys = length a.keys;
  lens = length a.lens;
}

-- the stored items that they hold
abbrev pub held_in : Lent → Held
held_in a = held a.items a.ends a.lens

-- ---- what is written: the slots of the row and its run
unfoldable pub laid : Kind → Encoding → Counted → Row → Bool → Bool → ℤ → Lent → Lent
laid k e r row item joins key a =
    lent
    (cond item (over a.items r.bytes (item_of k row)) a.items)
    (cond item (ends_with k (stored_by e r) (r.bytes + length (item_of k row)) a.ends) a.ends)
    (cond (item && flagged e) (flags_with (stored_by e r) (presence row) a.flags) a.flags)
    (cond (coded e) (counts_with r.runs r.last joins a.counts) a.counts)
    (cond (keyed e && not joins) (set a.keys r.runs key) a.keys)
    (cond item (lens_with k (stored_by e r) (length (bytes_in row)) a.lens) a.lens)

-- ---- append: 9 for the numbers, the areas and the fields, 2, 3, 4; a refusal gives back what it was given
pub record Added : Type 0 where
  pub answer : Next
  pub areas : Lent

abbrev pub added_to : Next → Lent → Added
added_to n a = record { answer = n; areas = a }

-- 3 and 4 for the numbers with the row counted in, and else those numbers and what is then held
unfoldable pub added_with : Kind → Encoding → Counted → Lent → Counted → Lent → Added
added_with k e r a next after =
    cond (past_limits k e next) (added_to (next_of LIMIT r) a)
    (cond (too_short k e next (room_of a)) (added_to (next_of ROOM r) a)
    (added_to (next_of 0 next) after))

unfoldable pub added_by : Kind → Encoding → Counted → Lent → Row → Option Step → Added
added_by k e r a row None = added_to (next_of DISAGREE r) a
added_by k e r a row (Some s) =
    cond (not (fits k row)) (added_to (next_of ITEM r) a)
    (added_with k e r a (grown e r (presence row) (length (item_of k row)) s.stored s.joins) (laid k e r row s.stored s.joins s.key a))

unfoldable pub added : Kind → Encoding → Counted → Lent → Row → Added
added k e r a row =
    cond (disagree k e r (room_of a)) (added_to (next_of DISAGREE r) a)
    (added_by k e r a row (step_of k e r (held_in a) a.keys row))
