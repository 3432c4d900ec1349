-- For the code: the sizes of the dictionary block of some rows. Assumes nothing.
use Rattle.std.specs.Prelude.{ℕ, ◌+◌, ◌*◌, cond, List, eqb, length}
use Rattle.encode.specs.declared.Kind.{Kind}
use Rattle.encode.specs.declared.Kind.TheVariants.{Fixed, Char, Blob}
use Rattle.plain.specs.Rows.{Row}
use Rattle.plain.specs.Plain.{joined, item_of}
use Rattle.rle.specs.RunLength.{runs_of, counts_of}
use Rattle.dict.specs.Dictionary.{entries_of}
use Rattle.repaired_sizes.specs.declared.Sizes.{Sizes}

abbrev pub sizes : ℕ → ℕ → ℕ → ℕ → Sizes
sizes runs counts entries bytes = record { runs = runs; counts = counts; entries = entries; bytes = bytes }

-- runs, the bytes of their counts, entries, the bytes of their items
unfoldable pub sizes_of : Kind → List Row → Sizes
sizes_of k rows = sizes (length (runs_of rows)) (length (counts_of (runs_of rows))) (length (entries_of rows)) (length (joined (item_of k) (entries_of rows)))

-- the key block; the entries as a plain block; the whole
unfoldable pub keys_long : Sizes → ℕ
keys_long s = cond (eqb s.runs 0) 0 (8 + s.counts + 4 * s.runs)

unfoldable pub entries_long : Kind → Sizes → ℕ
entries_long (Fixed p) s = s.bytes
entries_long (Char w) s = s.bytes
entries_long (Blob text) s = 4 * s.entries + s.bytes

unfoldable pub block_long : Kind → Sizes → ℕ
block_long k s = 12 + keys_long s + entries_long k s
