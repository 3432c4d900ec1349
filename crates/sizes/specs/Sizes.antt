-- 01, "Sizes": the estimated size and should_finish as functions of what is counted and the targets, for any numbers. Assumes nothing.
use Rattle.std.specs.Prelude.{ℕ, ◌+◌, ◌*◌, Bool, cond, not, ◌&&◌, ◌||◌, ltb, eqb}
use Rattle.encode.specs.Kinds.{width_of}
use Rattle.encode.specs.declared.Kind.{Kind}
use Rattle.encode.specs.declared.Kind.TheVariants.{Fixed, Char, Blob}
use Rattle.nullable.specs.Nullable.{bitmap_length}
use Rattle.dict.specs.Dictionary.{i32}
use Rattle.format.specs.declared.Encoding.{Encoding}
use Rattle.format.specs.declared.Encoding.TheVariants.{Plain, Nullable, RunLength, RunLengthNullable, Dictionary}
use Rattle.needs.specs.declared.Counted.{Counted}
use Rattle.needs.specs.Needs.{stored_by, plain_bytes, flagged}

-- ---- the estimated size
-- plain, its bytes; nullable, plain plus bitmap bytes
unfoldable pub inner_size : Kind → Encoding → Counted → ℕ
inner_size k e r = plain_bytes k (stored_by e r) r.bytes + cond (flagged e) (bitmap_length (stored_by e r)) 0

-- run-length, inner + 4 + 2 per run
unfoldable pub run_size : Counted → ℕ → ℕ
run_size r inner = inner + 4 + 2 * r.runs

-- dictionary, 8 + key part + entries
unfoldable pub size_by : Kind → Encoding → Counted → ℕ
size_by k Plain r = inner_size k Plain r
size_by k Nullable r = inner_size k Nullable r
size_by k RunLength r = run_size r (inner_size k RunLength r)
size_by k RunLengthNullable r = run_size r (inner_size k RunLengthNullable r)
size_by k Dictionary r = 8 + run_size r (4 * r.runs) + inner_size k Dictionary r

-- ---- should_finish, before a next row
-- the next item: its width; for blob its length and 4, and 4 for a null
unfoldable pub next_bytes : Kind → Bool → ℕ → ℕ
next_bytes (Fixed p) present len = width_of p
next_bytes (Char w) present len = w
next_bytes (Blob text) present len = cond present (len + 4) 4

-- item bytes that aren't empty, and a plain estimate that with so many bytes more exceeds the target
unfoldable pub exceeds : Kind → ℕ → ℕ → ℕ → ℕ → Bool
exceeds k n len target more = not (eqb len 0) && ltb target (plain_bytes k n len + more)

-- a nullable block counts one byte more; a run-length block asks its inner one
unfoldable pub items_full : Kind → Encoding → Counted → ℕ → Bool → ℕ → Bool
items_full k e r target present len =
    exceeds k (stored_by e r) r.bytes target (next_bytes k present len + cond (flagged e) 1 0)

-- the keys, one a run, have a target of their own; the next row isn't looked at for them
unfoldable pub keys_full : Counted → ℕ → Bool
keys_full r key = exceeds i32 r.runs (4 * r.runs) key 4

unfoldable pub full_by : Kind → Encoding → Counted → ℕ → ℕ → Bool → ℕ → Bool
full_by k Plain r target key present len = items_full k Plain r target present len
full_by k Nullable r target key present len = items_full k Nullable r target present len
full_by k RunLength r target key present len = items_full k RunLength r target present len
full_by k RunLengthNullable r target key present len = items_full k RunLengthNullable r target present len
full_by k Dictionary r target key present len = items_full k Dictionary r target present len || keys_full r key
