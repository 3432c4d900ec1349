-- `sizes::inner_size` meets its contract: each return by the law of the tests and arms that led there. Assumes nothing.
use Rattle.sizes.proofs.Estimates as laws
use native.Mathlib.Omega.{arith}
use Rattle.sizes.proofs.inner_size.Goals as goal

pub returns : goal.returns
returns c = (laws.inner-sum _ _ _ c.stored-n.ensures c.plain_bytes.ensures.0 c.flag_size.ensures.0, omega arith)
