-- For the code: one row written n times: what that asks of what is counted and of the lent areas. Assumes nothing.
use Rattle.std.specs.Prelude.{ℕ, ◌-◌, ◌<◌, ◌≡◌, Bool, true, false, not, length}
use Rattle.limits.specs.Limits.{MOST_COUNT}
use Rattle.encode.specs.declared.Kind.{Kind}
use Rattle.plain.specs.Rows.{Row, fits}
use Rattle.plain.specs.Plain.{item_of}
use Rattle.nullable.specs.Nullable.{presence}
use Rattle.format.specs.declared.Encoding.{Encoding}
use Rattle.needs.specs.declared.Counted.{Counted}
use Rattle.needs.specs.declared.Room.{Room}
use Rattle.needs.specs.Needs.{coded, keyed, past_limits, record_wrong, too_short}
use Rattle.step.specs.Counting.{grown}
use Rattle.copies.specs.Stretch.{grown_times}

-- the row fits, and with it the numbers are within the limits and have room: whether its item is stored, whether it joins the last run
pub record HoldsRow (k : Kind) (e : Encoding) (row : Row) (item joins : Bool) (r : Counted) (m : Room) : Type 0 where
  pub fit : fits k row ≡ true
  pub within : past_limits k e (grown e r (presence row) (length (item_of k row)) item joins) ≡ false
  pub room : too_short k e (grown e r (presence row) (length (item_of k row)) item joins) m ≡ false
  pub joinable : joins ≡ true → (0 < r.runs) × (r.last < MOST_COUNT)
  pub unless : keyed e ≡ false → item ≡ not joins

-- the row fits, so many of it more are within the limits and have room, and where rows are in runs there is one
pub record HoldsMore (k : Kind) (e : Encoding) (row : Row) (left : ℕ) (r : Counted) (m : Room) : Type 0 where
  pub fit : fits k row ≡ true
  pub within : past_limits k e (grown_times e (presence row) (length (item_of k row)) left r) ≡ false
  pub room : too_short k e (grown_times e (presence row) (length (item_of k row)) left r) m ≡ false
  pub some : coded e ≡ true → 0 < r.runs

-- all n of it: one at least, and the others behind the first
pub record HoldsAll (k : Kind) (e : Encoding) (row : Row) (item joins : Bool) (n : ℕ) (r : Counted) (m : Room) : Type 0 where
  pub right : record_wrong k e r ≡ false
  pub some : 0 < n
  pub first : HoldsRow k e row item joins r m
  pub each : coded e ≡ false → (item ≡ true) × (joins ≡ false)
  pub others : HoldsMore k e row (n - 1) (grown e r (presence row) (length (item_of k row)) item joins) m
