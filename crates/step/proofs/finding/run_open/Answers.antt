-- `step::run_open` meets its contract: each return by the law of the tests and arms that led there. Assumes nothing.
use Rattle.step.proofs.Steps as laws
use Rattle.step.proofs.finding.run_open.Goals as goal

pub returns-then-c-eq0 : goal.returns-then-c-eq0
returns-then-c-eq0 c = laws.open_none _ c.if-c-eq0.true

pub returns : goal.returns
returns c = laws.open-some _ c.if-c-eq0.false
