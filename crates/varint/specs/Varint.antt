-- Run counts: unsigned LEB128 as the Protocol Buffers encoding page has it, held to 32 bits and five bytes. Assumes nothing.
use Rattle.std.specs.Prelude.{ℕ, zero, suc, Option, Some, None, ◌+◌, ◌-◌, ◌*◌, ◌/◌, ◌%◌, ◌^◌, List, [], ◌∷◌, cond, length, drop, ltb, eqb}
use Rattle.area.specs.Area.{fits_at, over}
use Rattle.varint.specs.declared.Count.{Count}

-- a number, and the length of its spelling
abbrev pub counted : ℕ → ℕ → Option Count
counted v n = Some (record { value = v; len = n })

-- ---- reading
-- One more byte in front, whose low seven bits are the number's lowest. Where what follows it is worth 0, the number is spelled without that, so this
-- spelling is longer than needed, and no count.
unfoldable pub more : ℕ → Option Count → Option Count
more low (Some c) = cond (eqb c.value 0) None (counted (low + 128 * c.value) (c.len + 1))
more low None = None

-- The varint at the head of a list, of at most so many bytes. A byte below 128 is the last. Any other has its top bit set, and the rest of the
-- number follows, worth 128 times as much. A cut varint, and one that goes on past the bytes allowed, is no count.
unfoldable pub count_within : ℕ → List ℕ → Option Count
count_within zero s = None
count_within (suc k) [] = None
count_within (suc k) (b ∷ s) = cond (ltb b 128) (counted b 1) (more (b - 128) (count_within k s))

-- a number that doesn't fit 32 bits is no count: with five bytes, just a fifth byte above 0x0F
unfoldable pub in_32_bits : Option Count → Option Count
in_32_bits (Some c) = cond (ltb c.value (2 ^ 32)) (Some c) None
in_32_bits None = None

-- the count at the head of a list, and at a place
unfoldable pub count_of : List ℕ → Option Count
count_of s = in_32_bits (count_within 5 s)

unfoldable pub count_at : List ℕ → ℕ → Option Count
count_at s at = count_of (drop at s)

-- ---- writing
-- The shortest spelling, of at most so many bytes: a number below 128 is one byte; any other is its low seven bits with the top bit set, and then
-- the spelling of the rest.
unfoldable pub spell_within : ℕ → ℕ → List ℕ
spell_within zero v = []
spell_within (suc k) v = cond (ltb v 128) (v ∷ []) ((128 + v % 128) ∷ spell_within k (v / 128))

unfoldable pub spelling : ℕ → List ℕ
spelling v = spell_within 5 v

-- what writing a spelling at a place of an area answers, its length, and what the area then holds; none, and the area as it was, where it doesn't fit
unfoldable pub wrote : List ℕ → ℕ → List ℕ → Option ℕ
wrote area at vs = cond (fits_at area at (length vs)) (Some (length vs)) None

unfoldable pub wrote_over : List ℕ → ℕ → List ℕ → List ℕ
wrote_over area at vs = cond (fits_at area at (length vs)) (over area at vs) area
