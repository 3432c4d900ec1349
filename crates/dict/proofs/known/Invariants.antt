-- `dict::known` meets its contract. The loop's invariant is `Looking`. Assumes nothing.
use Rattle.dict.proofs.Slots as laws
use Rattle.dict.proofs.known.Given as goal

abbrev pub invariant-loop-i : goal.invariant-loop-i
invariant-loop-i l = laws.Looking l.entries l.keys l.n l.i
