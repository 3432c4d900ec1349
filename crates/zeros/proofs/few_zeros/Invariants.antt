-- `zeros::few_zeros` meets its contract. The loop's invariant is `Counting`. Assumes nothing.
use Rattle.zeros.proofs.Counting as laws
use Rattle.zeros.proofs.few_zeros.Given as goal

abbrev pub invariant-loop-i : goal.invariant-loop-i
invariant-loop-i l = laws.Counting l.s l.from l.n l.count l.i
