-- `repaired::lost_at` meets its contract. Assumes nothing.
use mathlib.Core.Path.{ap}
use lib.Dec.{ltb}
use Rattle.repaired.specs.Repaired.{lost_at}
use Rattle.repaired.proofs.lost_at.Goals as goal

pub returns : goal.returns
unfolding lost_at
returns c = ap (ltb c.args.entries) c.slot_at.ensures.0
