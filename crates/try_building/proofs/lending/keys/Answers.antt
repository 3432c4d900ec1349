-- `try_building::lending::keys` meets its contract: a repeat is as long as it says. Assumes nothing.
use lib.IntN.{ℤ, pos}
use mathlib.Core.Path.{sym}
use lib.ListN.{length-replicate}
use Rattle.try_building.proofs.lending.keys.Goals as goal

pub returns : goal.returns
returns c = sym (length-replicate {0} {A = ℤ} 65600 (pos 0))
