-- `try_building::lending::ends` meets its contract: a repeat is as long as it says. Assumes nothing.
use Prim.Native.Nat.{ℕ}
use mathlib.Core.Path.{sym}
use lib.ListN.{length-replicate}
use Rattle.try_building.proofs.lending.ends.Goals as goal

pub returns : goal.returns
returns c = sym (length-replicate {0} {A = ℕ} 65600 0)
