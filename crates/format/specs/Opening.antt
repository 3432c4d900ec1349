-- 01, "Sound blocks, in order of testing": the number that opening gives for any five arguments, 0 exactly for a sound block; and the rows that a
-- sound block holds. Sums and products here are of whole numbers, and none can wrap. Assumes nothing.
use Rattle.std.specs.Prelude.{ℕ, List, [], ◌∷◌, map, ltb, length, Option, Some, None}
use Rattle.limits.specs.Limits.{MOST_ROWS, MOST_ITEMS, MOST_BYTES}
use Rattle.limits.specs.Refusals.{COLUMN, LIMIT}
use Rattle.encode.specs.declared.Kind.{Kind}
use Rattle.plain.specs.Rows.{Row}
use Rattle.plain.specs.Rules.{◌if◌, first_of}
use Rattle.plain.specs.Plain.{places, plain_number, plain_row}
use Rattle.nullable.specs.Nullable.{nullable_number, nullable_row}
use Rattle.rle.specs.RunLength.{runs_in, counts_length, counts_part, inner_part, run_length_number, run_numbers}
use Rattle.dict.specs.Dictionary.{key_length, entries_in, key_part, entries_part, slot_at, dictionary_number, entry_row}
use Rattle.format.specs.declared.Encoding.{Encoding}
use Rattle.format.specs.declared.Encoding.TheVariants.{Plain, Nullable, RunLength, RunLengthNullable, Dictionary}
use Rattle.format.specs.declared.Column.{Column}
use Rattle.format.specs.declared.Head.{Head}
use Rattle.format.specs.Blocks.{column_of}

-- ---- the number
unfoldable pub rules_of : Kind → Encoding → ℕ → List ℕ → ℕ
rules_of k Plain n b = plain_number k n b
rules_of k Nullable n b = nullable_number k n b
rules_of k RunLength n b = run_length_number (plain_number k) n b
rules_of k RunLengthNullable n b = run_length_number (nullable_number k) n b
rules_of k Dictionary n b = dictionary_number k n b

-- in encodings 0 and 1 every row is a stored item
unfoldable pub most_rows : Encoding → ℕ
most_rows Plain = MOST_ITEMS
most_rows Nullable = MOST_ITEMS
most_rows RunLength = MOST_ROWS
most_rows RunLengthNullable = MOST_ROWS
most_rows Dictionary = MOST_ROWS

unfoldable pub column_number : Option Column → ℕ → List ℕ → ℕ
column_number None n b = COLUMN
column_number (Some c) n b =
    first_of (LIMIT if ltb MOST_BYTES (length b) ∷ LIMIT if ltb (most_rows c.encoding) n ∷ rules_of c.kind c.encoding n b ∷ [])

unfoldable pub open_number : ℕ → ℕ → ℕ → ℕ → List ℕ → ℕ
open_number kind encoding width n b = column_number (column_of kind encoding width) n b

-- ---- the rows
-- the numbers at a block's head; those that its encoding lacks are 0
abbrev pub head : ℕ → ℕ → ℕ → ℕ → Head
head runs counts keys entries = record { runs = runs; counts = counts; keys = keys; entries = entries }

unfoldable pub head_of : Encoding → List ℕ → Head
head_of Plain b = head 0 0 0 0
head_of Nullable b = head 0 0 0 0
head_of RunLength b = head (runs_in b) (counts_length b) 0 0
head_of RunLengthNullable b = head (runs_in b) (counts_length b) 0 0
head_of Dictionary b = head (runs_in (key_part (key_length b) b)) (counts_length (key_part (key_length b) b)) (key_length b) (entries_in b)

-- the row of stored item i, or of run i, of a block of n rows
unfoldable pub row_at : Kind → Encoding → ℕ → Head → List ℕ → ℕ → Row
row_at k Plain n h b i = plain_row k n b i
row_at k Nullable n h b i = nullable_row k n b i
row_at k RunLength n h b i = plain_row k h.runs (inner_part h.counts b) i
row_at k RunLengthNullable n h b i = nullable_row k h.runs (inner_part h.counts b) i
row_at k Dictionary n h b i = entry_row k h.entries (entries_part h.keys b) (slot_at (inner_part h.counts (key_part h.keys b)) i)

-- the counts of its runs
unfoldable pub counts_in : Encoding → Head → List ℕ → List ℕ
counts_in Plain h b = []
counts_in Nullable h b = []
counts_in RunLength h b = counts_part h.counts b
counts_in RunLengthNullable h b = counts_part h.counts b
counts_in Dictionary h b = counts_part h.counts (key_part h.keys b)

-- the stored item or the run that each row lies in
unfoldable pub places_of : Encoding → ℕ → Head → List ℕ → List ℕ
places_of Plain n h b = places n 0
places_of Nullable n h b = places n 0
places_of RunLength n h b = run_numbers h.runs 0 (counts_in RunLength h b)
places_of RunLengthNullable n h b = run_numbers h.runs 0 (counts_in RunLengthNullable h b)
places_of Dictionary n h b = run_numbers h.runs 0 (counts_in Dictionary h b)

unfoldable pub rows_of : Kind → Encoding → ℕ → List ℕ → List Row
rows_of k e n b = map (row_at k e n (head_of e b) b) (places_of e n (head_of e b) b)
