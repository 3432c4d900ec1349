-- `sizes::run_size` meets its contract: each return by the law of the tests and arms that led there. Assumes nothing.
use Rattle.sizes.proofs.Estimates as laws
use native.Mathlib.Omega.{arith}
use Rattle.sizes.proofs.run_size.Goals as goal

pub returns : goal.returns
returns c = (laws.run-sum _ _, omega arith)
