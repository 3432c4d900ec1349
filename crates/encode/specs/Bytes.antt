-- A number's bytes, over the width and the order of the bytes, and the number of a list of bytes.
-- Assumes nothing.
use Rattle.std.specs.Prelude.{List, [], ◌∷◌, ◌++◌, reverse, ℕ, zero, suc, ◌+◌, ◌-◌, ◌*◌, ◌/◌, ◌%◌, length, replicate}

-- little-endian and big-endian
pub data Order : Type 0 where
  low_first high-first : Order

-- the lowest w bytes of n, lowest first
abbrev pub little : ℕ → ℕ → List ℕ
little zero n = []
little (suc w) n = n % 256 ∷ little w (n / 256)

-- the lowest w bytes of n, highest first
abbrev pub big : ℕ → ℕ → List ℕ
big w n = reverse (little w n)

abbrev pub bytes_of : Order → ℕ → ℕ → List ℕ
bytes_of low_first w n = little w n
bytes_of high-first w n = big w n

-- the number of a list of bytes, lowest first
abbrev pub number : List ℕ → ℕ
number [] = 0
number (b ∷ bs) = b + 256 * number bs

abbrev pub number_of : Order → List ℕ → ℕ
number_of low_first bs = number bs
number_of high-first bs = number (reverse bs)

-- at most eight bytes passed whole: the unused ones are 0
abbrev pub in_eight : List ℕ → List ℕ
in_eight bs = bs ++ replicate (8 - length bs) 0
