-- Nullable blocks: the plain block, a bitmap, the bitmap's byte length. Assumes nothing.
use Rattle.std.specs.Prelude.{ℕ, ◌+◌, ◌-◌, ◌*◌, ◌/◌, ◌%◌, ◌^◌, cond, not, List, [], ◌∷◌, ◌++◌, map, ltb, eqb, length, take, drop, get_or}
use Rattle.encode.specs.Bytes.{little, number}
use Rattle.encode.specs.declared.Kind.{Kind}
use Rattle.limits.specs.Refusals.{CUT, LENGTH}
use Rattle.plain.specs.Rows.{Row, null, int, bytes}
use Rattle.plain.specs.Rules.{◌if◌, first_of}
use Rattle.plain.specs.Plain.{places, plain_of, plain_number, plain_row}

-- a byte for eight rows, rounded up
unfoldable pub bitmap_length : ℕ → ℕ
bitmap_length n = (n + 7) / 8

-- ---- the bytes
-- 1 means present
unfoldable pub presence : Row → ℕ
presence null = 0
presence (int v) = 1
presence (bytes bs) = 1

-- the byte of up to eight bits, lowest first; bits that are not there are 0
unfoldable pub byte_of : List ℕ → ℕ
byte_of [] = 0
byte_of (bit ∷ bits) = bit + 2 * byte_of bits

-- row i is bit i mod 8 of byte i / 8
unfoldable pub bitmap_byte : List Row → ℕ → ℕ
bitmap_byte rows k = byte_of (take 8 (drop (8 * k) (map presence rows)))

unfoldable pub bitmap_of : List Row → List ℕ
bitmap_of rows = map (bitmap_byte rows) (places (bitmap_length (length rows)) 0)

unfoldable pub nullable_of : Kind → List Row → List ℕ
nullable_of k rows = plain_of k rows ++ bitmap_of rows ++ little 4 (length (bitmap_of rows))

-- ---- the parts of a block of n items: the plain block, the bitmap and the four bytes of the trailer
unfoldable pub plain_part : ℕ → List ℕ → List ℕ
plain_part n b = take (length b - (bitmap_length n + 4)) b

unfoldable pub bitmap_part : ℕ → List ℕ → List ℕ
bitmap_part n b = take (bitmap_length n) (drop (length b - (bitmap_length n + 4)) b)

unfoldable pub trailer_of : List ℕ → ℕ
trailer_of b = number (drop (length b - 4) b)

-- ---- the rules: at least 4 bytes; the bitmap's length is n / 8 rounded up; bitmap and trailer fit; then the plain rules on the rest
unfoldable pub nullable_number : Kind → ℕ → List ℕ → ℕ
nullable_number k n b =
    first_of (
    CUT if ltb (length b) 4
    ∷ LENGTH if not (eqb (trailer_of b) (bitmap_length n))
    ∷ CUT if ltb (length b) (bitmap_length n + 4)
    ∷ plain_number k n (plain_part n b)
    ∷ [])

-- ---- the rows
unfoldable pub bit_at : List ℕ → ℕ → ℕ
bit_at bitmap i = get_or bitmap (i / 8) 0 / 2 ^ (i % 8) % 2

unfoldable pub nullable_row : Kind → ℕ → List ℕ → ℕ → Row
nullable_row k n b i = cond (eqb (bit_at (bitmap_part n b) i) 0) null (plain_row k n (plain_part n b) i)
