-- 01, "Reading": whether the numbers that a record has of a block contradict one another, and whether the fields that a row is read by are right. They
-- are the block's rows `n`, its length `len`, the numbers `h` at its head and the run that reading stands in. Assumes nothing.
use Rattle.std.specs.Prelude.{ℕ, ◌+◌, ◌*◌, Bool, false, not, ◌&&◌, ◌||◌, List, ltb, eqb}
use Rattle.limits.specs.Limits.{MOST_ITEMS, MOST_ENTRIES}
use Rattle.encode.specs.declared.Kind.{Kind}
use Rattle.plain.specs.Plain.{least_bytes, ends_good}
use Rattle.nullable.specs.Nullable.{bitmap_length, plain_part}
use Rattle.rle.specs.RunLength.{inner_part}
use Rattle.dict.specs.Dictionary.{key_part, entries_part, slot_at, entry_good}
use Rattle.format.specs.declared.Encoding.{Encoding}
use Rattle.format.specs.declared.Encoding.TheVariants.{Plain, Nullable, RunLength, RunLengthNullable, Dictionary}
use Rattle.format.specs.declared.Head.{Head}

-- with no runs and no counts there are no parts
unfoldable pub no_runs : Head → Bool
no_runs h = eqb h.runs 0 && eqb h.counts 0

-- a run-length block of `len` bytes is too short for its counts and for the least bytes of what lies behind them
unfoldable pub runs_outside : ℕ → Head → ℕ → Bool
runs_outside len h least = not (no_runs h) && ltb len (8 + h.counts + least)

-- a part outside the block, or too short for its items
unfoldable pub part_outside : Kind → Encoding → ℕ → ℕ → Head → Bool
part_outside k Plain n len h = ltb len (least_bytes k n)
part_outside k Nullable n len h = ltb len (least_bytes k n + (bitmap_length n + 4))
part_outside k RunLength n len h = runs_outside len h (least_bytes k h.runs)
part_outside k RunLengthNullable n len h = runs_outside len h (least_bytes k h.runs + (bitmap_length h.runs + 4))
part_outside k Dictionary n len h = ltb len (12 + h.keys + least_bytes k h.entries) || runs_outside h.keys h (4 * h.runs)

-- more runs or entries than the limits, or a run past the runs
unfoldable pub runs_wrong : Head → ℕ → Bool
runs_wrong h run = ltb MOST_ITEMS h.runs || ltb h.runs run

unfoldable pub head_wrong : Encoding → Head → ℕ → Bool
head_wrong Plain h run = false
head_wrong Nullable h run = false
head_wrong RunLength h run = runs_wrong h run
head_wrong RunLengthNullable h run = runs_wrong h run
head_wrong Dictionary h run = runs_wrong h run || ltb MOST_ENTRIES h.entries

-- the ends or the key of stored item i, or of run i
unfoldable pub row_good : Kind → Encoding → ℕ → Head → List ℕ → ℕ → Bool
row_good k Plain n h b i = ends_good k n b i
row_good k Nullable n h b i = ends_good k n (plain_part n b) i
row_good k RunLength n h b i = ends_good k h.runs (inner_part h.counts b) i
row_good k RunLengthNullable n h b i = ends_good k h.runs (plain_part h.runs (inner_part h.counts b)) i
row_good k Dictionary n h b i =
    entry_good k h.entries (entries_part h.keys b) (slot_at (inner_part h.counts (key_part h.keys b)) i)
