-- `walk` meets its contract. The loop's invariant: the state, and the bytes that are left, decide what is due in the end. Assumes nothing.
use Rattle.utf8.proofs.Walking.{Walking}
use Rattle.utf8.proofs.walk.Given as goal

abbrev pub invariant-loop-i : goal.invariant-loop-i
invariant-loop-i l = Walking l.s l.from l.n l.state l.i
