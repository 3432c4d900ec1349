-- `rle::pass_on` meets its contract. The loop keeps where the rows that are left to pass lead to; the measure is the runs ahead. Assumes nothing.
use Prim.Native.Nat.{◌-◌, ◌^◌, ◌<◌}
use Rattle.rle.specs.Stepping.{spot}
use Rattle.rle.proofs.Advancing.{Going}
use Rattle.rle.proofs.pass_on.Given as goal

abbrev pub invariant-loop-left : goal.invariant-loop-left
invariant-loop-left l = Going l.runs l.counts l.n (spot l.first l.from 0) l.run l.at 0 l.left × (l.at < 2 ^ 64) × (0 < l.most)

abbrev pub decreases-loop-left : goal.decreases-loop-left
decreases-loop-left l = l.runs - l.run
