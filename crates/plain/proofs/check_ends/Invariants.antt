-- `check_ends` meets its contract. The loop's invariant: the ends that are left decide whether all of them rise and which is the last.
-- Assumes nothing.
use Rattle.plain.proofs.Ends.{Rising}
use Rattle.plain.proofs.check_ends.Given as goal

abbrev pub invariant-loop-i : goal.invariant-loop-i
invariant-loop-i l = Rising l.s l.n l.data l.last l.i
