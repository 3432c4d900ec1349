-- 01, "Sizes" and the limits of "What comes back", of a list of rows. Assumes nothing.
use Rattle.std.specs.Prelude.{ℕ, ◌+◌, ◌*◌, Bool, true, not, ◌&&◌, ◌||◌, List, [], ◌∷◌, map, ltb, leb, eqb, length}
use Rattle.limits.specs.Limits.{MOST_ROWS, MOST_ITEMS, MOST_ENTRIES, MOST_BYTES}
use Rattle.encode.specs.declared.Kind.{Kind}
use Rattle.encode.specs.declared.Kind.TheVariants.{Fixed, Char, Blob}
use Rattle.encode.specs.Kinds.{width_of}
use Rattle.plain.specs.Rows.{Row, null, bytes_in, fits}
use Rattle.plain.specs.Plain.{joined, item_of, plain_of}
use Rattle.nullable.specs.Nullable.{bitmap_of}
use Rattle.rle.specs.RunLength.{runs_of}
use Rattle.dict.specs.Dictionary.{i32, entries_of, key_of}
use Rattle.format.specs.declared.Encoding.{Encoding}
use Rattle.format.specs.declared.Encoding.TheVariants.{Plain, Nullable, RunLength, RunLengthNullable, Dictionary}
use Rattle.format.specs.Blocks.{block_of}

-- the rows that the inner block of a run-length block stores, one a run; a dictionary's keys, one a row
unfoldable pub run_rows : List Row → List Row
run_rows rows = map (λ r. r.row) (runs_of rows)

unfoldable pub keys_of : List Row → List Row
keys_of rows = map (key_of (entries_of rows)) rows

-- ---- the estimated size
-- plain: its bytes
unfoldable pub plain_size : Kind → List Row → ℕ
plain_size k rows = length (plain_of k rows)

-- nullable: plain plus bitmap bytes
unfoldable pub nullable_size : Kind → List Row → ℕ
nullable_size k rows = plain_size k rows + length (bitmap_of rows)

-- run-length: inner + 4 + 2 per run
unfoldable pub run_length_size : (List Row → ℕ) → List Row → ℕ
run_length_size inner rows = inner (run_rows rows) + 4 + 2 * length (runs_of rows)

-- dictionary: 8 + key part + entries
unfoldable pub estimate_of : Kind → Encoding → List Row → ℕ
estimate_of k Plain rows = plain_size k rows
estimate_of k Nullable rows = nullable_size k rows
estimate_of k RunLength rows = run_length_size (plain_size k) rows
estimate_of k RunLengthNullable rows = run_length_size (nullable_size k) rows
estimate_of k Dictionary rows = 8 + run_length_size (plain_size i32) (keys_of rows) + plain_size k (entries_of rows)

-- ---- should_finish, before a next row
-- the next item: its width; for blob its length and 4, and 4 for a null
unfoldable pub next_size : Kind → Row → ℕ
next_size (Fixed p) next = width_of p
next_size (Char w) next = w
next_size (Blob text) next = length (bytes_in next) + 4

-- item bytes that aren't empty, and so many bytes more than the estimate exceed the target
unfoldable pub full_with : ℕ → Kind → ℕ → List Row → Bool
full_with more k target rows = not (eqb (length (joined (item_of k) rows)) 0) && ltb target (plain_size k rows + more)

unfoldable pub plain_full : Kind → ℕ → List Row → Row → Bool
plain_full k target rows next = full_with (next_size k next) k target rows

unfoldable pub nullable_full : Kind → ℕ → List Row → Row → Bool
nullable_full k target rows next = full_with (next_size k next + 1) k target rows

-- with two targets: a dictionary asks its entries with the first and its keys with the second; no other encoding looks at that
unfoldable pub should_finish : Kind → Encoding → ℕ → ℕ → List Row → Row → Bool
should_finish k Plain target key rows next = plain_full k target rows next
should_finish k Nullable target key rows next = nullable_full k target rows next
should_finish k RunLength target key rows next = plain_full k target (run_rows rows) next
should_finish k RunLengthNullable target key rows next = nullable_full k target (run_rows rows) next
should_finish k Dictionary target key rows next =
    plain_full k target (entries_of rows) next || plain_full i32 key (run_rows (keys_of rows)) null

-- ---- the limits: total rows, stored items or runs, entries, the finished block
unfoldable pub stored_items : Encoding → List Row → ℕ
stored_items Plain rows = length rows
stored_items Nullable rows = length rows
stored_items RunLength rows = length (runs_of rows)
stored_items RunLengthNullable rows = length (runs_of rows)
stored_items Dictionary rows = length (runs_of (keys_of rows))

unfoldable pub stored_entries : Encoding → List Row → ℕ
stored_entries Plain rows = 0
stored_entries Nullable rows = 0
stored_entries RunLength rows = 0
stored_entries RunLengthNullable rows = 0
stored_entries Dictionary rows = length (entries_of rows)

unfoldable pub within_limits : Kind → Encoding → List Row → Bool
within_limits k e rows =
    leb (length rows) MOST_ROWS
    && leb (stored_items e rows) MOST_ITEMS
    && leb (stored_entries e rows) MOST_ENTRIES
    && leb (length (block_of k e rows)) MOST_BYTES

-- a list is accepted if each row fits its kind and the whole list is within the limits
unfoldable pub all_fit : Kind → List Row → Bool
all_fit k [] = true
all_fit k (r ∷ rows) = fits k r && all_fit k rows

unfoldable pub accepted : Kind → Encoding → List Row → Bool
accepted k e rows = all_fit k rows && within_limits k e rows
