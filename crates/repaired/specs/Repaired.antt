-- For the code: a dictionary column from its parts, with every run whose key names no entry shown as null, run by run. Assumes nothing.
use Rattle.std.specs.Prelude.{ℕ, ◌-◌, ◌*◌, ◌≤◌, ◌<◌, Bool, true, cond, List, ◌++◌, map, ◌≡◌, ltb, length, replicate}
use Rattle.limits.specs.Limits.{MOST_ITEMS, MOST_ENTRIES, MOST_BYTES}
use Rattle.encode.specs.declared.Kind.{Kind}
use Rattle.plain.specs.Rows.{Row}
use Rattle.plain.specs.Plain.{plain_number}
use Rattle.rle.specs.declared.Spot.{Spot}
use Rattle.rle.specs.Stepping.{spot, steps_from}
use Rattle.rle.specs.Pieces.{step_runs, Fine}
use Rattle.dict.specs.Dictionary.{i32, slot_at, entry_row}
use Rattle.source.specs.declared.Marks.TheVariants.{Bare}
use Rattle.source.specs.declared.Source.{Source}
use Rattle.source.specs.declared.ShownRun.{ShownRun}

-- ---- a run
-- its key is neither null's nor an entry's
unfoldable pub lost_at : ℕ → List ℕ → ℕ → Bool
lost_at entries keys i = ltb entries (slot_at keys i)

-- which entry it shows, from 1 on; 0 is null
unfoldable pub slot_in : ℕ → List ℕ → ℕ → ℕ
slot_in entries keys i = cond (lost_at entries keys i) 0 (slot_at keys i)

unfoldable pub row_in : Kind → ℕ → List ℕ → List ℕ → ℕ → Row
row_in k entries keys items i = entry_row k entries items (slot_in entries keys i)

-- ---- the rows
-- the keys are read as a run-length column
abbrev pub keys_by : ℕ → Source
keys_by runs = record { kind = i32; marks = Bare; items = runs; runs = runs; coded = true }

abbrev pub start : Spot
start = spot 0 0 0

-- no rows of a run, before the first
abbrev pub none_yet : ShownRun
none_yet = record { slot = 0; rows = 0; next = start }

-- the run of each row
abbrev pub runs_walked : ℕ → List ℕ → ℕ → List ℕ
runs_walked runs counts n = step_runs (steps_from runs counts n start)

-- the rows
abbrev pub rows_repaired : Kind → ℕ → ℕ → List ℕ → List ℕ → List ℕ → ℕ → List Row
rows_repaired k entries runs counts keys items n = map (row_in k entries keys items) (runs_walked runs counts n)

-- ... of the rows that are left: those of the run that was taken last, which is counted from 1 on, then those behind it
unfoldable pub runs_ahead : ℕ → List ℕ → ShownRun → ℕ → List ℕ
runs_ahead runs counts x left = replicate x.rows (x.slot - 1) ++ step_runs (steps_from runs counts (left - x.rows) x.next)

abbrev pub rows_ahead : Kind → ℕ → ℕ → List ℕ → List ℕ → List ℕ → ShownRun → ℕ → List Row
rows_ahead k entries runs counts keys items x left = map (row_in k entries keys items) (runs_ahead runs counts x left)

-- ---- what the code asks
-- a key for each run is there
pub record Keyed (runs : ℕ) (keys : List ℕ) : Type 0 where
  pub few : runs ≤ MOST_ITEMS
  pub short : length keys ≤ MOST_BYTES
  pub whole : 4 * runs ≤ length keys

-- the entries are there and good
pub record Entered (k : Kind) (entries : ℕ) (items : List ℕ) : Type 0 where
  pub few : entries ≤ MOST_ENTRIES
  pub sound : plain_number k entries items ≡ 0

-- `left` rows lie ahead
pub record Ahead (runs : ℕ) (counts : List ℕ) (x : ShownRun) (left : ℕ) : Type 0 where
  pub some : x.rows ≤ left
  pub there : 0 < x.rows → (0 < x.slot) × (x.slot ≤ runs)
  pub inside : x.next.run ≤ runs
  pub fine : Fine (steps_from runs counts (left - x.rows) x.next)
