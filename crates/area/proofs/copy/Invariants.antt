-- `area::copy` meets its contract. The loop's invariant is `Copying`. Assumes nothing.
use Rattle.area.proofs.Loops as laws
use Rattle.area.proofs.copy.Given as goal

abbrev pub invariant-loop-i : goal.invariant-loop-i
invariant-loop-i l = laws.Copying l.src l.from l.n l.initial.dst l.at l.dst l.i
