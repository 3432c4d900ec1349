-- `fixed_rows::put_values` meets its contract: the law of the loops over runs that write an element a row, at the values. Assumes nothing.
use Prim.Native.Nat.{◌+◌, ◌-◌}
use Rattle.fixed_rows.proofs.Values.{Values}
use Rattle.fixed_rows.proofs.put_values.Given as goal

abbrev pub invariant-loop-left : goal.invariant-loop-left
invariant-loop-left l = Values l.s l.marks l.items l.counts l.n l.initial.at l.initial.values l.at l.left l.to l.values

abbrev pub decreases-loop-left : goal.decreases-loop-left
decreases-loop-left l = l.left + (l.s.runs - l.at.run)
