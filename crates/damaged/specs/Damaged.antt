-- 02 (xii): a dictionary block of which some keys name no entry: the rules that it has to meet, its rows, those of such keys made null, and the maximal
-- ranges of the rows that this changes. Assumes nothing.
use Rattle.std.specs.Prelude.{ℕ, Bool, cond, List, [], ◌∷◌, map, ltb, eqb, length, Option, Some, None}
use Rattle.limits.specs.Limits.{MOST_ROWS, MOST_BYTES}
use Rattle.limits.specs.Refusals.{COLUMN, LIMIT}
use Rattle.encode.specs.declared.Kind.{Kind}
use Rattle.plain.specs.Rows.{Row, null}
use Rattle.plain.specs.Rules.{◌if◌, first_of}
use Rattle.rle.specs.RunLength.{inner_part}
use Rattle.dict.specs.Dictionary.{key_part, slot_at, dictionary_rules}
use Rattle.format.specs.declared.Encoding.{Encoding}
use Rattle.format.specs.declared.Encoding.TheVariants.{Plain, Nullable, RunLength, RunLengthNullable, Dictionary}
use Rattle.format.specs.declared.Column.{Column}
use Rattle.format.specs.declared.Head.{Head}
use Rattle.format.specs.Blocks.{column_of}
use Rattle.format.specs.Opening.{head_of, row_at, places_of}
use Rattle.descriptor.specs.declared.Descriptor.{Descriptor}
use Rattle.ranges.specs.Ranges.{Range, ranges_of}

-- ---- the rules: 1 for any encoding but dictionary, then opening's, tested as if every key were good
unfoldable pub rules_but_15_in : Encoding → Kind → ℕ → List ℕ → ℕ
rules_but_15_in Plain k n b = COLUMN
rules_but_15_in Nullable k n b = COLUMN
rules_but_15_in RunLength k n b = COLUMN
rules_but_15_in RunLengthNullable k n b = COLUMN
rules_but_15_in Dictionary k n b = first_of (LIMIT if ltb MOST_BYTES (length b) ∷ LIMIT if ltb MOST_ROWS n ∷ dictionary_rules 0 k n b ∷ [])

unfoldable pub rules_but_15 : Option Column → ℕ → List ℕ → ℕ
rules_but_15 None n b = COLUMN
rules_but_15 (Some c) n b = rules_but_15_in c.encoding c.kind n b

unfoldable pub described_but_15 : Descriptor → List ℕ → ℕ
described_but_15 d b = cond (eqb d.zero 0) (rules_but_15 (column_of d.kind d.encoding d.width) d.rows b) COLUMN

-- ---- the rows
-- the key of run i is neither null's nor an entry's
unfoldable pub is_lost : Head → List ℕ → ℕ → Bool
is_lost h b i = ltb h.entries (slot_at (inner_part h.counts (key_part h.keys b)) i)

unfoldable pub repaired_at : Kind → ℕ → Head → List ℕ → ℕ → Row
repaired_at k n h b i = cond (is_lost h b i) null (row_at k Dictionary n h b i)

unfoldable pub repaired_rows : Kind → ℕ → List ℕ → List Row
repaired_rows k n b = map (repaired_at k n (head_of Dictionary b) b) (places_of Dictionary n (head_of Dictionary b) b)

unfoldable pub lost_ranges : ℕ → List ℕ → List Range
lost_ranges n b = ranges_of (map (is_lost (head_of Dictionary b) b) (places_of Dictionary n (head_of Dictionary b) b))
