-- `block_of` meets its contract: the test tells which case of `block_in` it is. Assumes nothing.
use native.Mathlib.Omega.{arith}
use Rattle.text.proofs.Inputs as laws
use Rattle.text.proofs.opening.block_of.Goals as goal

pub returns-then-input-lt8 : goal.returns-then-input-lt8
returns-then-input-lt8 c = laws.block-short _ (omega arith)

pub returns : goal.returns
returns c = laws.block-rest _ (omega arith)
