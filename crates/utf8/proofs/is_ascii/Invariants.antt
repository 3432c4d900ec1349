-- `is_ascii` meets its contract. The loop's invariant: the largest byte that was passed and the bytes that are left decide. Assumes nothing.
use Rattle.utf8.proofs.Ascii.{Topped}
use Rattle.utf8.proofs.is_ascii.Given as goal

abbrev pub invariant-loop-i : goal.invariant-loop-i
invariant-loop-i l = Topped l.s l.from l.n l.top l.i
