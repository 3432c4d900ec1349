-- `area::fill` meets its contract. The loop's invariant is `Filling`. Assumes nothing.
use Rattle.area.proofs.Loops as laws
use Rattle.area.proofs.fill.Given as goal

abbrev pub invariant-loop-i : goal.invariant-loop-i
invariant-loop-i g l = laws.Filling l.initial.dst l.at l.n l.x l.dst l.i
