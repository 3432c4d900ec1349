-- `needs::run_bytes` meets its contract: each return by the law of the tests and arms that led there. Assumes nothing.
use Rattle.needs.proofs.Lengths as lengths
use native.Mathlib.Omega.{arith}
use Rattle.needs.proofs.run_bytes.Goals as goal

pub returns-then-c-eq0 : goal.returns-then-c-eq0
returns-then-c-eq0 c = (lengths.run_none _ _ c.if-c-eq0.true, omega arith)

pub returns : goal.returns
returns c = (lengths.run-some _ _ c.if-c-eq0.false, omega arith)
