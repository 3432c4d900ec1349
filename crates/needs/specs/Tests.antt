-- For the code: the encodings of rows and of runs, and the tests on the few numbers that they need. Assumes nothing.
use Rattle.std.specs.Prelude.{ℕ, ◌+◌, Bool, cond, ◌&&◌, ◌||◌, ltb}
use Rattle.limits.specs.Limits.{MOST_ITEMS, MOST_BYTES}
use Rattle.encode.specs.declared.Kind.{Kind}
use Rattle.nullable.specs.Nullable.{bitmap_length}
use Rattle.format.specs.declared.Encoding.{Encoding}
use Rattle.format.specs.declared.Encoding.TheVariants.{Plain, Nullable, RunLength, RunLengthNullable}
use Rattle.needs.specs.declared.Room.{Room}
use Rattle.needs.specs.Needs.{plain_bytes, bytes_wrong, fields_short}

-- ---- the encodings of rows, and of runs: with a flag beside each stored item, or none
abbrev pub rows_by : Bool → Encoding
rows_by nullable = cond nullable Nullable Plain

abbrev pub runs_by : Bool → Encoding
runs_by nullable = cond nullable RunLengthNullable RunLength

-- ---- the tests, on the few numbers that they need
-- n stored items are too many, their bytes not their need, or more than any block has
unfoldable pub items_wrong : Kind → ℕ → ℕ → Bool
items_wrong k n len = ltb MOST_ITEMS n || bytes_wrong k n len || ltb MOST_BYTES len

-- an inner block of n items, of so many item bytes: plain or nullable
unfoldable pub inner_by : Kind → Bool → ℕ → ℕ → ℕ
inner_by k nullable n len = plain_bytes k n len + cond nullable (bitmap_length n + 4) 0

-- the areas of its items, their fields and flags are below its need
unfoldable pub inner_short : Kind → Bool → ℕ → ℕ → Room → Bool
inner_short k nullable n len m = ltb m.items len || fields_short k n m || nullable && ltb m.flags (bitmap_length n)
