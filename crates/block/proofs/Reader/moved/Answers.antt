-- `block::Reader::moved` meets its contract. Assumes nothing.
use Rattle.block.specs.Spots.{spot_by, moved_by}
use Rattle.block.proofs.Reader.moved.Goals as goal

pub returns-then-coded : goal.returns-then-coded
unfolding spot_by moved_by
returns-then-coded c = rw c.if-coded.true

pub returns-else-coded : goal.returns-else-coded
unfolding spot_by moved_by
returns-else-coded c = rw c.if-coded.false
