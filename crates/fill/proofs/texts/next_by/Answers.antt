-- `fill::next_by` meets its contract. Assumes nothing.
use Rattle.fill.specs.Filling.{next_by}
use Rattle.fill.proofs.texts.next_by.Goals as goal

-- src/texts.rt:172:9
pub returns-then-coded : goal.returns-then-coded
unfolding next_by
returns-then-coded c = rw c.if-coded.true

-- src/texts.rt:168:1
pub returns : goal.returns
unfolding next_by
returns c = rw c.if-coded.false
