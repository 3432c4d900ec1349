-- `block::Reader::start` meets its contract. Assumes nothing.
use Rattle.block.specs.Spots.{start_of}
use Rattle.block.proofs.Reader.start.Goals as goal

pub returns-then-coded : goal.returns-then-coded
unfolding start_of
returns-then-coded c = rw c.if-coded.true

pub returns : goal.returns
unfolding start_of
returns c = rw c.if-coded.false
