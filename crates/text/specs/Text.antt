-- 01, "Listing program": a row's text, in ASCII, and what lent memory holds after a text was put at its start. Assumes nothing.
use Rattle.std.specs.Prelude.{ℕ, zero, suc, ◌/◌, ◌%◌, Bool, true, false, cond, List, [], ◌∷◌, ◌++◌, ltb, ℤ, pos, negsuc, length, Option, Some, None}
use Rattle.std.specs.Int.{w32, w64}
use Rattle.std.proofs.Common.{of_z, to_z}
use Rattle.area.specs.Area.{over}
use Rattle.encode.specs.declared.Primitive.{Primitive}
use Rattle.encode.specs.declared.Primitive.TheVariants.{Bool as Boolean, I16, I32, I64, Date, Timestamp, TimestampTz, Interval, F64}
use Rattle.encode.specs.declared.Kind.{Kind}
use Rattle.encode.specs.declared.Kind.TheVariants.{Fixed, Char, Blob}
use Rattle.plain.specs.Rows.{Row, null, int, bytes}
use Rattle.io.specs.Digits.{hex_digit_ascii}

-- ---- decimal numbers: no zeros in front. Twenty digits hold every number of 64 bits.
unfoldable pub decimal_in : ℕ → ℕ → List ℕ
decimal_in zero n = []
decimal_in (suc most) n = cond (ltb n 10) (hex_digit_ascii n ∷ []) (decimal_in most (n / 10) ++ (hex_digit_ascii (n % 10) ∷ []))

abbrev pub decimal : ℕ → List ℕ
decimal n = decimal_in 20 n

-- 45 is the minus sign; `negsuc n` is -(n + 1)
unfoldable pub number_text : ℤ → List ℕ
number_text (pos n) = decimal n
number_text (negsuc n) = 45 ∷ decimal (suc n)

-- An Interval's integer is months times 2^32 plus days modulo 2^32: of its 64 bits the upper half are the months and the lower half the
-- days, each a number of 32 bits. 32 is also the space.
unfoldable pub interval_text : ℕ → List ℕ
interval_text bits = number_text (to_z w32 (bits / 4294967296)) ++ (32 ∷ number_text (to_z w32 (bits % 4294967296)))

unfoldable pub is_interval : Primitive → Bool
is_interval Boolean = false
is_interval I16 = false
is_interval I32 = false
is_interval I64 = false
is_interval Date = false
is_interval Timestamp = false
is_interval TimestampTz = false
is_interval Interval = true
is_interval F64 = false

unfoldable pub value_text : Primitive → ℤ → List ℕ
value_text p v = cond (is_interval p) (interval_text (of_z w64 v)) (number_text v)

-- ---- bytes: two digits each, in lower case; where there are none, `-`
unfoldable pub hex_of : List ℕ → List ℕ
hex_of [] = []
hex_of (b ∷ bs) = hex_digit_ascii (b / 16) ∷ (hex_digit_ascii (b % 16) ∷ hex_of bs)

unfoldable pub bytes_text : List ℕ → List ℕ
bytes_text [] = 45 ∷ []
bytes_text (b ∷ bs) = hex_of (b ∷ bs)

-- ---- a row: `null`, a value or bytes
abbrev pub null_text : List ℕ
null_text = 110 ∷ (117 ∷ (108 ∷ (108 ∷ [])))

-- char, blob and string have no integers; the text of one is said for them too, so that every row has a text
unfoldable pub int_text : Kind → ℤ → List ℕ
int_text (Fixed p) v = value_text p v
int_text (Char w) v = number_text v
int_text (Blob text) v = number_text v

unfoldable pub row_text : Kind → Row → List ℕ
row_text k null = null_text
row_text k (int v) = int_text k v
row_text k (bytes bs) = bytes_text bs

-- ---- a text put at the start of lent memory: its length, or nothing written where the memory is too short
unfoldable pub made_in : List ℕ → List ℕ → Option ℕ
made_in room t = cond (ltb (length room) (length t)) None (Some (length t))

unfoldable pub held_after : List ℕ → List ℕ → List ℕ
held_after room t = cond (ltb (length room) (length t)) room (over room 0 t)
