-- For the code: whether the highest byte of a fixed kind's items comes first, and what a number of its width reads as. Assumes nothing.
use Rattle.std.specs.Prelude.{ℕ, ◌+◌, ◌-◌, Option, Some, None, Bool, true, false, cond, leb, ℤ, pos, negsuc}
use Rattle.encode.specs.Bytes.{Order, low_first, high-first}
use Rattle.encode.specs.Kinds.{layout_of, number_as}
use Rattle.encode.specs.declared.Primitive.{Primitive}

abbrev pub is_high : Order → Bool
is_high high-first = true
is_high low_first = false

abbrev pub high_first : Primitive → Bool
high_first p = is_high (layout_of p).order

abbrev pub read_as : Primitive → ℕ → ℤ
read_as p n = number_as (layout_of p).reading (layout_of p).size n

-- two's complement: the numbers up to half are themselves, and those above count down from -1, which is the top one
unfoldable pub signed_by : ℕ → ℕ → ℕ → ℤ
signed_by n half top = cond (leb n half) (pos n) (negsuc (top - n))

-- which of a plain block's items it is, counted from 1 on; 0 is none
abbrev pub slot_of : Option ℕ → ℕ
slot_of None = 0
slot_of (Some i) = i + 1
