-- `sizes::flag_more` meets its contract: each return by the law of the tests and arms that led there. Assumes nothing.
use native.Mathlib.Omega.{arith}
use Rattle.needs.proofs.Encodings.{cond-then, cond-else}
use Rattle.sizes.proofs.flag_more.Goals as goal

pub returns-then-is_flagged : goal.returns-then-is_flagged
returns-then-is_flagged c = (cond-then 1 0 c.is_flagged.ensures c.if-is_flagged.true, omega arith)

pub returns : goal.returns
returns c = (cond-else 1 0 c.is_flagged.ensures c.if-is_flagged.false, omega arith)
