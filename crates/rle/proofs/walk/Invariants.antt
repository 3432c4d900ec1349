-- `rle::walk` meets its contract. The loop keeps that the sum so far and the walk over the rest are the whole; the measure is the runs left.
-- Assumes nothing.
use Prim.Native.Nat.{◌<◌}
use Rattle.rle.proofs.Walking.{Walking}
use Rattle.rle.proofs.walk.Given as goal

abbrev pub invariant-loop-left : goal.invariant-loop-left
invariant-loop-left l = Walking l.s l.runs l.at l.total l.left × (0 < l.most)

abbrev pub decreases-loop-left : goal.decreases-loop-left
decreases-loop-left l = l.left
