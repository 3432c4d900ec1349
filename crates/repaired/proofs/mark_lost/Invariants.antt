-- `repaired::mark_lost` meets its contract. The loop's invariant is `Marking`; its measure is what is left to mark, and what is left to take. Assumes nothing.
use Prim.Native.Nat.{◌+◌, ◌-◌}
use Rattle.repaired.proofs.Marking as laws
use Rattle.repaired.proofs.mark_lost.Given as goal

abbrev pub invariant-loop-left : goal.invariant-loop-left
invariant-loop-left l = laws.Marking l.entries l.runs l.counts l.keys l.n l.initial.firsts l.initial.lasts l.firsts l.lasts l.mark l.left l.x

abbrev pub decreases-loop-left : goal.decreases-loop-left
decreases-loop-left l = l.left + (l.left - l.x.rows + (l.runs - l.x.next.run))
