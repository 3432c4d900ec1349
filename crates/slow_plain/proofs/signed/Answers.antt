-- `signed` meets its contract: the lower half as it is, and the upper half turned over, cast and turned back. Assumes nothing.
use native.Mathlib.Omega.{arith}
use Rattle.slow_plain.proofs.Values.{low_half, high_half}
use Rattle.slow_plain.proofs.signed.Goals as goal

pub returns-then-n-half : goal.returns-then-n-half
returns-then-n-half c = let a = c.args in low_half a.n a.half a.top (omega arith) (omega arith)

pub returns : goal.returns
returns c = let a = c.args in high_half a.n a.half a.top (omega arith) (omega arith) (omega arith) (omega arith)
