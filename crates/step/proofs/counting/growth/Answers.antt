-- `step::growth` meets its contract: each return by the law of the tests and arms that led there. Assumes nothing.
use Rattle.step.proofs.Growth as laws
use native.Mathlib.Omega.{arith}
use Rattle.step.proofs.counting.growth.Goals as goal

pub overflow_sub-result : goal.overflow_sub-result
overflow_sub-result c = let g = laws.grows c.args.last c.requires c.size.ensures c.size-2.ensures in omega arith

pub returns : goal.returns
returns c = let g = laws.grows c.args.last c.requires c.size.ensures c.size-2.ensures in (g.1, g.2)
