-- `key_bits` meets its contract: the two's complement of 32 bits is the lowest bits of that of 64. Assumes nothing.
use mathlib.Core.Path.{ap, ◌∙◌}
use Prim.Native.Nat.{ℕ, ◌%◌}
use lib.Dec.{lit≤}
use native.Mathlib.Omega.{arith}
use mir.Syntax.{w32, w64}
use mir.Val.{of_z, to_z, SFits}
use lib.IntN.{ℤ}
use mir.Facts.{to_z-of_z}
use Rattle.encode.proofs.RoundTrip.{lowest}
use Rattle.emit.proofs.key_bits.Goals as goal

pub overflow_cast-key : goal.overflow_cast-key
overflow_cast-key c = rw (to_z-of_z c.ranges.key) (record { sfits = omega arith })

pub returns : goal.returns
returns c =
    let key = to_z-of_z c.ranges.key in
    let wide : SFits w64 c.args.key = record { sfits = omega arith } in
    ap (λ (m : ℕ). m % 4294967296)
    (c.cast_unsigned.ensures ∙ ap (of_z w64) (ap (λ (z : ℤ). to_z w64 (of_z w64 z)) key ∙ to_z-of_z wide))
    ∙ lowest w32 (lit≤ tt) c.args.key c.ranges.key
