-- For the code: what a part of a block tells of a row, the run that a row lies in, and a place in a part. Assumes nothing.
use Rattle.std.specs.Prelude.{ℕ, ◌+◌, ◌≤◌, ◌<◌, Bool, true, false, List, ◌≡◌, length, get_or}
use Rattle.limits.specs.Limits.{MOST_ITEMS, MOST_BYTES}
use Rattle.encode.specs.declared.Kind.{Kind}
use Rattle.rle.specs.RunLength.{runs_in, counts_length, counts_part, inner_part, run_numbers}
use Rattle.format.specs.declared.Encoding.{Encoding}
use Rattle.format.specs.declared.Encoding.TheVariants.{Plain, Nullable, RunLength, RunLengthNullable}
use Rattle.format.specs.Opening.{rules_of}
use Rattle.slow_counts.specs.Within.{Within}
use Rattle.slow_places.specs.declared.Place.{Place}
use Rattle.slow_places.specs.declared.InRun.{InRun}
use Rattle.slow_places.specs.Places.{Opened, Shows}

-- the place shows the row, whatever the kind is
abbrev pub Told : Encoding → ℕ → List ℕ → ℕ → Place → Type 0
Told e n b row p = (k : Kind) → rules_of k e n b ≡ 0 → Shows k e n b row p

-- a block that was opened, of some number of rows, has the row
pub record Has (e : Encoding) (b : List ℕ) (row : ℕ) : Type 0 where
  pub rows : ℕ
  pub opened : Opened e rows b
  pub inside : row < rows

-- the encoding of items, and that of runs of them, by whether an item can be null
abbrev pub items_by : Bool → Encoding
items_by true = Nullable
items_by false = Plain

abbrev pub runs_by : Bool → Encoding
runs_by true = RunLengthNullable
runs_by false = RunLength

-- ---- a run-length block over items of any kind
-- the block of the items
abbrev pub items_of : List ℕ → List ℕ
items_of b = inner_part (counts_length b) b

-- it has the row
pub record Counted (b : List ℕ) (row : ℕ) : Type 0 where
  pub short : length b ≤ MOST_BYTES
  pub many : runs_in b ≤ MOST_ITEMS
  pub room : 8 + counts_length b ≤ length b
  pub within : Within (runs_in b) (counts_part (counts_length b) b) row

-- the run that the row lies in
abbrev pub run_at : List ℕ → ℕ → ℕ
run_at b row = get_or (run_numbers (runs_in b) 0 (counts_part (counts_length b) b)) row 0

pub record Lies (b : List ℕ) (row : ℕ) (r : InRun) : Type 0 where
  pub runs : r.runs ≡ runs_in b
  pub inner : r.inner ≡ 8 + counts_length b
  pub run : r.run ≡ run_at b row
  pub below : r.run < r.runs

-- a place in a part, as a place in the whole: the part begins so many bytes on
abbrev pub moved_by : ℕ → Place → Place
moved_by by p = record { from = by + p.from; to = by + p.to; items = p.items; item = p.item }
