-- The numbers of a program's input. Assumes nothing.
use Rattle.std.specs.Prelude.{ℕ, ◌+◌, ◌%◌, ◌^◌, cond, List, [], ◌∷◌, map, nat_lt, slice_index}
use Rattle.encode.specs.Bytes.{low_first, number_of}
use Rattle.script.specs.declared.Taken.{Taken}

-- the byte so many places further on, which wrap; 0 where there is none
unfoldable pub byte_after : List ℕ → ℕ → ℕ → ℕ
byte_after s at n = slice_index s ((at + n) % 2 ^ 64)

-- the eight bytes after a place
unfoldable pub eight_after : List ℕ → ℕ → List ℕ
eight_after s at = map (byte_after s at) (1 ∷ 2 ∷ 3 ∷ 4 ∷ 5 ∷ 6 ∷ 7 ∷ 8 ∷ [])

abbrev taken : ℕ → ℕ → Taken
taken value next = record { value = value; next = next }

-- a number below 255 is one byte; any other is the byte 255 and eight bytes, lowest first
unfoldable pub taken_at : List ℕ → ℕ → Taken
taken_at s at =
    cond (nat_lt (slice_index s at) 255)
    (taken (slice_index s at) ((at + 1) % 2 ^ 64))
    (taken (number_of low_first (eight_after s at)) ((at + 9) % 2 ^ 64))
