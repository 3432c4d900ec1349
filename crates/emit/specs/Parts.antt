-- 01, "Building": the parts of the block that lent areas hold, as finish writes them. Assumes nothing.
use Rattle.std.specs.Prelude.{ℕ, ◌-◌, ◌*◌, ◌%◌, ◌^◌, min, Bool, true, false, cond, List, [], ◌++◌, map, eqb, ℤ, length, take, get_or}
use Rattle.std.specs.Int.{w32}
use Rattle.std.proofs.Common.{of_z}
use Rattle.encode.specs.Bytes.{little, big}
use Rattle.encode.specs.declared.Kind.{Kind}
use Rattle.encode.specs.declared.Kind.TheVariants.{Fixed, Char, Blob}
use Rattle.varint.specs.Varint.{spelling}
use Rattle.plain.specs.Plain.{places, joined}
use Rattle.nullable.specs.Nullable.{bitmap_length}

-- a plain block of n items, of so many bytes in all: a blob's ends and its data, or the items
unfoldable pub held_plain : Kind → ℕ → ℕ → List ℕ → List ℕ → List ℕ
held_plain (Fixed p) n len items ends = take len items
held_plain (Char w) n len items ends = take len items
held_plain (Blob text) n len items ends = joined (little 4) (take n ends) ++ take len items

-- byte k of a bitmap of n bits: the bits that are unused are 0
unfoldable pub held_byte : ℕ → List ℕ → ℕ → ℕ
held_byte n flags k = get_or flags k 0 % 2 ^ min 8 (n - 8 * k)

unfoldable pub held_bitmap : ℕ → List ℕ → List ℕ
held_bitmap n flags = map (held_byte n flags) (places (bitmap_length n) 0)

-- a plain block, or a nullable one: with the bitmap and its byte length
unfoldable pub held_inner : Bool → Kind → ℕ → ℕ → List ℕ → List ℕ → List ℕ → List ℕ
held_inner false k n len items ends flags = held_plain k n len items ends
held_inner true k n len items ends flags = held_plain k n len items ends ++ held_bitmap n flags ++ little 4 (bitmap_length n)

-- the counts in the slots of n runs, the last one's too
unfoldable pub held_counts : ℕ → List ℕ → List ℕ
held_counts n counts = joined spelling (take n counts)

-- a run-length block over an inner one: its lengths follow the counts held; no runs give no bytes
unfoldable pub held_runs : ℕ → List ℕ → List ℕ → List ℕ
held_runs n counts inner =
    cond (eqb n 0) []
    (little 4 n ++ little 4 (length (held_counts n counts)) ++ held_counts n counts ++ inner)

-- a dictionary's key block
unfoldable pub held_keys : ℕ → List ℕ → List ℤ → List ℕ
held_keys n counts keys = held_runs n counts (joined (λ key. little 4 (of_z w32 key)) (take n keys))

-- a dictionary of so many entries, and of n key runs
unfoldable pub held_dictionary : Kind → ℕ → ℕ → ℕ → List ℕ → List ℕ → List ℕ → List ℤ → List ℕ
held_dictionary k entries len n items ends counts keys =
    big 8 (length (held_keys n counts keys)) ++ big 4 entries ++ held_keys n counts keys ++ held_plain k entries len items ends
