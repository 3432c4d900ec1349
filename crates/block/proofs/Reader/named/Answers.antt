-- `block::Reader::named` meets its contract: it is what `format::column_of` ensures. Assumes nothing.
use Rattle.block.proofs.Reader.named.Goals as goal

pub returns : goal.returns
returns c = c.column_of.ensures
