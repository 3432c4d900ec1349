-- `block::nulls_given` meets its contract, by the marks. Assumes nothing.
use native.Mathlib.Omega.{arith}
use Rattle.block.specs.Spots.{nulls_by}
use Rattle.block.proofs.reading.nulls_given.Goals as goal

pub returns-in-Bare : goal.returns-in-Bare
unfolding nulls_by
returns-in-Bare c = (rw c.in-Bare.is, omega arith)

pub returns-in-Bits : goal.returns-in-Bits
unfolding nulls_by
returns-in-Bits c = (rw c.in-Bits.is c.zeros.ensures.0, c.zeros.ensures.1)

pub returns-in-Keys : goal.returns-in-Keys
unfolding nulls_by
returns-in-Keys c = (rw c.in-Keys.is c.zeros-in-Keys.ensures.0, c.zeros-in-Keys.ensures.1)
