-- `step::next_null` meets its contract: each return by the law of the tests and arms that led there. Assumes nothing.
use Rattle.step.proofs.Growth as laws
use Rattle.step.proofs.counting.next_null.Goals as goal

pub returns-then-present : goal.returns-then-present
returns-then-present c = laws.null-not _ c.if-present.true

pub returns : goal.returns
returns c = laws.null-so _ c.if-present.false
