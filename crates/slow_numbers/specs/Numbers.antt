-- For the code: which order a flag names, which byte is taken next, and what the bytes of a count that were passed make of the rest. Assumes nothing.
use Rattle.std.specs.Prelude.{ℕ, ◌+◌, ◌-◌, ◌*◌, Bool, true, false, cond, ◌&&◌, ltb, eqb, Option, Some, None}
use Rattle.encode.specs.Bytes.{Order, low_first, high-first}
use Rattle.varint.specs.declared.Count.{Count}
use Rattle.varint.specs.Varint.{counted}

unfoldable pub order_by : Bool → Order
order_by true = high-first
order_by false = low_first

-- of w bytes from a place on, the highest comes first: where that stands which comes after i others
unfoldable pub place_by : Bool → ℕ → ℕ → ℕ → ℕ
place_by true at w i = at + i
place_by false at w i = at + (w - 1 - i)

-- a last byte that is worth nothing, behind others: the number is spelled without it
abbrev pub idle_after : ℕ → ℕ → Bool
idle_after i b = ltb 0 i && eqb b 0

-- i bytes of a count, worth so much together, before the rest of it, which is worth so many times as much
unfoldable pub ahead : ℕ → ℕ → ℕ → Option Count → Option Count
ahead value worth i (Some c) = cond (idle_after i c.value) None (counted (value + c.value * worth) (i + c.len))
ahead value worth i None = None
