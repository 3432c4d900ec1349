-- `sizes::flag_size` meets its contract: each return by the law of the tests and arms that led there. Assumes nothing.
use Rattle.sizes.proofs.Estimates as laws
use native.Mathlib.Omega.{arith}
use Rattle.sizes.proofs.flag_size.Goals as goal

pub returns-then-is_flagged : goal.returns-then-is_flagged
returns-then-is_flagged c = (laws.flag-some _ c.is_flagged.ensures c.if-is_flagged.true _ c.bitmap_len.ensures.0, c.bitmap_len.ensures.1)

pub returns : goal.returns
returns c = (laws.flag-none _ c.is_flagged.ensures c.if-is_flagged.false _, omega arith)
