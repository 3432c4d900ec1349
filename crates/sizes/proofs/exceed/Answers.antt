-- `sizes::exceed` meets its contract: each return by the law of the tests and arms that led there. Assumes nothing.
use Rattle.sizes.proofs.Estimates as laws
use native.Mathlib.Omega.{arith}
use Rattle.sizes.proofs.exceed.Goals as goal

pub returns-then-target-len : goal.returns-then-target-len
returns-then-target-len c = laws.exceeds-far _ _ _ _ c.if-target-len.true

pub returns : goal.returns
returns c = let a = c.args in laws.exceeds-by a.target a.have a.more a.len c.if-target-len.false _ (omega arith)
