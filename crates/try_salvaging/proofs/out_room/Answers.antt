-- `try_salvaging::out_room` meets its contract: a repeat is as long as it says. Assumes nothing.
use Rattle.std.proofs.Common.{ℕ, sym}
use lib.ListN.{length-replicate}
use Rattle.try_salvaging.proofs.out_room.Goals as goal

pub returns : goal.returns
returns c = sym (length-replicate {0} {A = ℕ} 700000 170)
