-- `sheet::none` meets its contract: the reader is the one beside a refusal. Assumes nothing.
use mathlib.Core.Path.{ap}
use Rattle.sheet.specs.Sheet.{found}
use Rattle.sheet.proofs.none.Goals as goal

pub returns : goal.returns
returns c = ap (found c.args.number 0 0) c.no_reader.ensures
