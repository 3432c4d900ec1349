-- `block::nothing_asked` meets its contract. Assumes nothing.
use borrow.Author.Tests.{eq-eqb, ne_eqb}
use Rattle.block.proofs.reading.nothing_asked.Goals as goal

pub returns-then-skip-ne0 : goal.returns-then-skip-ne0
returns-then-skip-ne0 c = simp (ne_eqb _ 0 c.if-skip-ne0.true)

pub returns : goal.returns
returns c = simp (eq-eqb _ 0 c.if-skip-ne0.false)
