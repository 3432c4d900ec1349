-- `copy_by_eight` meets its contract: the law of the loop that copies, by eight bytes a step, and then the rest. Assumes nothing.
use Prim.Native.Nat.{◌-◌}
use Rattle.char_rows.proofs.Words.{Copying}
use Rattle.char_rows.proofs.copy_by_eight.Given as goal

abbrev pub invariant-loop-i : goal.invariant-loop-i
invariant-loop-i l = Copying l.src l.from l.n l.initial.dst l.at l.dst l.i

abbrev pub decreases-loop-i : goal.decreases-loop-i
decreases-loop-i l = l.n - l.i
