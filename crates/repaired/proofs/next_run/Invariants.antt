-- `repaired::next_run` meets its contract. The loop's invariant is `Merging`; its measure is what is left to merge, and what is left to take. Assumes nothing.
use Prim.Native.Nat.{◌+◌, ◌-◌}
use Rattle.repaired.proofs.Merging as laws
use Rattle.repaired.proofs.next_run.Given as goal

abbrev pub invariant-loop-rows : goal.invariant-loop-rows
invariant-loop-rows l = laws.Merging l.kind l.entries l.runs l.counts l.keys l.items l.initial.x l.left l.x l.slot l.rows

abbrev pub decreases-loop-rows : goal.decreases-loop-rows
decreases-loop-rows l = l.left - l.rows + (l.left - l.rows - l.x.rows + (l.runs - l.x.next.run))
