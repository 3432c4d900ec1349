-- `Opening::from` meets its contract: each case by its equation. Assumes nothing.
use Rattle.block.specs.Reading.{opening_of}
use Rattle.block.proofs.OpeningFromResultReaderRefusal.from.Goals as goal

pub returns-in-Ok : goal.returns-in-Ok
unfolding opening_of
returns-in-Ok c = rw c.in-Ok.is

pub returns-in-Err : goal.returns-in-Err
unfolding opening_of
returns-in-Err c = rw (c.in-Err.is, c.from.ensures, c.no_reader.ensures)
