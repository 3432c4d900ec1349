-- `step::grown_row` meets its contract: each return by the law of the tests and arms that led there. Assumes nothing.
use Rattle.step.proofs.Growth as laws
use Rattle.step.proofs.counting.grown_row.Goals as goal

pub returns : goal.returns
returns c = laws.grown-row _ _
