-- `low_bits` meets its contract: a one moved by fewer than eight bits is the power. Assumes nothing.
use native.Mathlib.Omega.{arith}
use Prim.Native.Nat.{ℕ, ◌%◌}
use mathlib.Core.Path.{ap}
use lib.Pow.{pow_pos}
use Rattle.emit.proofs.Bits.{moved}
use Rattle.emit.proofs.low_bits.Goals as goal

pub nonzero_rem-result : goal.nonzero_rem-result
nonzero_rem-result c = rw (moved c.args.n (omega arith)) (pow_pos c.args.n)

pub returns : goal.returns
returns c = ap (λ (m : ℕ). c.args.x % m) (moved c.args.n (omega arith))
