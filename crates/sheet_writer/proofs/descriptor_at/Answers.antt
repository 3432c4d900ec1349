-- `sheet_writer::descriptor_at` meets its contract: the numbers at the place are the first behind it. Assumes nothing.
use Rattle.sheet_writer.proofs.Columns as laws
use Rattle.sheet_writer.proofs.descriptor_at.Goals as goal

pub returns : goal.returns
returns c = let a = c.args in laws.descriptor-lent a.numbers.now a.place
