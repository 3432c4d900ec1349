-- `used::mark` meets its contract: the bit is 0, so that adding its worth carries nothing. Assumes nothing.
use Prim.Native.Nat.{◌/◌}
use native.Mathlib.Omega.{arith}
use lib.ListN.{length-set}
use Rattle.used.proofs.Bits.{stays-byte, one_set}
use Rattle.used.proofs.mark.Goals as goal

pub overflow_add-bits : goal.overflow_add-bits
overflow_add-bits c =
    let a = c.args in
    let b = stays-byte a.bits.now a.i c.requires.0 c.requires.1 (omega (arith, c.slice_known-1.given (a.i / 8))) in
    omega arith

pub returns : goal.returns
returns c =
    let a = c.args in
    record { bits_len_unchanged = simp length-set; by_index = one_set a.bits.now a.i c.requires.0 c.requires.1 }
