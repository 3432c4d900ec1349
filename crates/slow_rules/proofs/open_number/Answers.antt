-- `open_number` meets its contract: the zero bit, then the rules of the column that the descriptor names. Assumes nothing.
use Rattle.slow_rules.proofs.Columns as laws
use Rattle.slow_rules.proofs.open_number.Goals as goal

pub returns-then-d-ne0 : goal.returns-then-d-ne0
returns-then-d-ne0 c = laws.bit-set _ _ c.if-d-ne0.true

pub returns : goal.returns
returns c = laws.by-column _ _ c.if-d-ne0.false c.column_of.ensures c.column_number.ensures
