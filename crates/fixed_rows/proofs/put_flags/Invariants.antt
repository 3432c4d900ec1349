-- `fixed_rows::put_flags` meets its contract: the law of the loops over runs that write an element a row, at the flags. Assumes nothing.
use Prim.Native.Nat.{ℕ, ◌+◌, ◌-◌}
use Rattle.source.specs.Rows.{flag_by}
use Rattle.source.proofs.Filled as laws
use Rattle.fixed_rows.proofs.put_flags.Given as goal

abbrev pub invariant-loop-left : goal.invariant-loop-left
invariant-loop-left l = laws.Filled ℕ (flag_by l.s l.marks l.items) l.s.coded l.s.runs l.counts l.n l.initial.at l.initial.flags l.at l.left l.to l.flags

abbrev pub decreases-loop-left : goal.decreases-loop-left
decreases-loop-left l = l.left + (l.s.runs - l.at.run)
