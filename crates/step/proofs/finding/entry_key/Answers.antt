-- `step::entry_key` meets its contract: each return by the law of the tests and arms that led there. Assumes nothing.
use Rattle.step.proofs.Steps as laws
use Rattle.step.proofs.finding.entry_key.Goals as goal

pub overflow_add-result : goal.overflow_add-result
overflow_add-result c = laws.key-sum-fits _ c.requires

pub returns : goal.returns
returns c = laws.key-bits _ c.requires
