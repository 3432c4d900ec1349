-- 01, "Building": what a builder has counted says of the block and of the six lent areas: sizes, limits and needs, for any numbers and any memory.
-- Assumes nothing.
use Rattle.std.specs.Prelude.{ℕ, ◌+◌, ◌*◌, Bool, true, false, cond, not, ◌&&◌, ◌||◌, ltb, eqb}
use Rattle.limits.specs.Limits.{MOST_ROWS, MOST_ITEMS, MOST_ENTRIES, MOST_BYTES}
use Rattle.encode.specs.declared.Kind.{Kind}
use Rattle.encode.specs.declared.Kind.TheVariants.{Fixed, Char, Blob}
use Rattle.encode.specs.Kinds.{width_of}
use Rattle.nullable.specs.Nullable.{bitmap_length}
use Rattle.format.specs.declared.Encoding.{Encoding}
use Rattle.format.specs.declared.Encoding.TheVariants.{Plain, Nullable, RunLength, RunLengthNullable, Dictionary}
use Rattle.needs.specs.declared.Counted.{Counted}
use Rattle.needs.specs.declared.Room.{Room}

-- ---- encodings
-- rows are coded by runs
unfoldable pub coded : Encoding → Bool
coded Plain = false
coded Nullable = false
coded RunLength = true
coded RunLengthNullable = true
coded Dictionary = true

-- a flag stands beside each stored item
unfoldable pub flagged : Encoding → Bool
flagged Plain = false
flagged Nullable = true
flagged RunLength = false
flagged RunLengthNullable = true
flagged Dictionary = false

-- a run has a key, which names an entry
unfoldable pub keyed : Encoding → Bool
keyed Plain = false
keyed Nullable = false
keyed RunLength = false
keyed RunLengthNullable = false
keyed Dictionary = true

-- ---- sizes by the record
-- the stored items: rows, runs or entries
unfoldable pub stored_by : Encoding → Counted → ℕ
stored_by e r = cond (keyed e) r.entries (cond (coded e) r.runs r.rows)

-- a plain block of n items, of so many item bytes: only a blob's has ends
unfoldable pub plain_bytes : Kind → ℕ → ℕ → ℕ
plain_bytes (Fixed p) n len = len
plain_bytes (Char w) n len = len
plain_bytes (Blob text) n len = 4 * n + len

-- that block, or a nullable one: with its bitmap and the four bytes of the trailer
unfoldable pub inner_bytes : Kind → Encoding → Counted → ℕ
inner_bytes k e r = plain_bytes k (stored_by e r) r.bytes + cond (flagged e) (bitmap_length (stored_by e r) + 4) 0

-- a run-length block of so many inner bytes: zero rows give zero bytes
unfoldable pub run_bytes : Counted → ℕ → ℕ
run_bytes r inner = cond (eqb r.runs 0) 0 (8 + r.counts + inner)

-- the finished block
unfoldable pub finished_bytes : Kind → Encoding → Counted → ℕ
finished_bytes k Plain r = inner_bytes k Plain r
finished_bytes k Nullable r = inner_bytes k Nullable r
finished_bytes k RunLength r = run_bytes r (inner_bytes k RunLength r)
finished_bytes k RunLengthNullable r = run_bytes r (inner_bytes k RunLengthNullable r)
finished_bytes k Dictionary r = 12 + run_bytes r (4 * r.runs) + inner_bytes k Dictionary r

-- ---- a limit is passed: total rows; stored items or runs; entries; the finished block
unfoldable pub counts_past : Encoding → Counted → Bool
counts_past e r =
    ltb MOST_ROWS r.rows
    || ltb MOST_ITEMS (cond (coded e) r.runs r.rows)
    || keyed e && ltb MOST_ENTRIES r.entries

unfoldable pub past_limits : Kind → Encoding → Counted → Bool
past_limits k e r = counts_past e r || ltb MOST_BYTES (finished_bytes k e r)

-- ---- the record is wrong by itself
-- the item bytes are not the need of n items: for blob they can be any, but none of no items
unfoldable pub bytes_wrong : Kind → ℕ → ℕ → Bool
bytes_wrong (Fixed p) n len = not (eqb len (n * width_of p))
bytes_wrong (Char w) n len = not (eqb len (n * w))
bytes_wrong (Blob text) n len = eqb n 0 && not (eqb len 0)

-- the counts' byte length has no area and no need: it is held to the limit alone, also with no runs
unfoldable pub record_wrong : Kind → Encoding → Counted → Bool
record_wrong k e r = coded e && ltb MOST_BYTES r.counts || bytes_wrong k (stored_by e r) r.bytes || past_limits k e r

-- ---- one lent area is below the record's need: 9 of the record that is given, 4 of the record with the row counted in
-- one u32 slot a blob item; one length byte a char item
unfoldable pub fields_short : Kind → ℕ → Room → Bool
fields_short (Fixed p) n m = false
fields_short (Char w) n m = ltb m.lens n
fields_short (Blob text) n m = ltb m.ends n

-- one slot a run; one i32 slot a key run
unfoldable pub runs_short : Encoding → Counted → Room → Bool
runs_short e r m = coded e && ltb m.counts r.runs || keyed e && ltb m.keys r.runs

-- the item bytes; those fields; one byte per eight flags, rounded up; those slots
unfoldable pub too_short : Kind → Encoding → Counted → Room → Bool
too_short k e r m =
    ltb m.items r.bytes
    || fields_short k (stored_by e r) m
    || flagged e && ltb m.flags (bitmap_length (stored_by e r))
    || runs_short e r m

-- ---- the numbers and the lent memory disagree: the numbers are wrong, or one area is below their need
unfoldable pub disagree : Kind → Encoding → Counted → Room → Bool
disagree k e r m = record_wrong k e r || too_short k e r m
