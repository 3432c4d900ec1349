-- For the code: the bits of one byte; a value beside its flag. Assumes nothing.
use Rattle.std.specs.Prelude.{ℕ, ◌/◌, ◌%◌, ◌^◌, cond, List, eqb, ℤ, pos, get_or}

-- bit j of a byte
unfoldable pub bit_in : ℕ → ℕ → ℕ
bit_in byte j = byte / 2 ^ j % 2

-- the value at a place, or 0 where the flag there is 0
unfoldable pub blank_at : List ℕ → List ℤ → ℕ → ℤ
blank_at flags values i = cond (eqb (get_or flags i 0) 0) (pos 0) (get_or values i (pos 0))
