-- `weigh::weigh_blobs` meets its contract: the law of the loops that weigh, at blob, whose ends are looked at under a null bit too. Assumes nothing.
use Prim.Native.Nat.{◌+◌, ◌-◌}
use Rattle.weigh.proofs.RunWeights as laws
use Rattle.weigh.proofs.weigh_blobs.Given as goal

abbrev pub invariant-loop-left : goal.invariant-loop-left
invariant-loop-left l = laws.Weighs l.s l.marks l.items l.counts l.n l.initial.at l.at l.left l.total

abbrev pub decreases-loop-left : goal.decreases-loop-left
decreases-loop-left l = l.left + (l.s.runs - l.at.run)
