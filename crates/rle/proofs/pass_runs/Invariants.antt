-- `rle::pass_runs` meets its contract. The loop keeps where the rows that are left to pass lead to; the measure is the runs left before the last. Assumes
-- nothing.
use Rattle.rle.specs.Stepping.{spot}
use Rattle.rle.proofs.Advancing as laws
use Rattle.rle.proofs.pass_runs.Given as goal

abbrev pub invariant-loop-left : goal.invariant-loop-left
invariant-loop-left l = laws.Few l.counts l.stop l.n (spot l.first l.from 0) l.few l.at l.left

abbrev pub decreases-loop-left : goal.decreases-loop-left
decreases-loop-left l = l.few
