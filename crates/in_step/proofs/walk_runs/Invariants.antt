-- `in_step::walk_runs` meets its contract. The loop's invariant is `Walking`; its measure is what is left to compare, and of each side what is left to take.
-- Assumes nothing.
use Prim.Native.Nat.{◌+◌, ◌-◌}
use Rattle.in_step.proofs.Walking as laws
use Rattle.in_step.proofs.walk_runs.Given as goal

abbrev pub invariant-loop-left : goal.invariant-loop-left
invariant-loop-left l = laws.Walking l.a l.counts l.marks l.items l.b l.counts2 l.marks2 l.items2 l.n l.initial.firsts l.initial.lasts l.firsts l.lasts l.mark l.left l.x l.y

abbrev pub decreases-loop-left : goal.decreases-loop-left
decreases-loop-left l = l.left + (l.left - l.x.rows + (l.a.runs - l.x.next.run)) + (l.left - l.y.rows + (l.b.runs - l.y.next.run))
