-- `keys_known` meets its contract. The loop's invariant is `Looking`, its measure the keys that are left. Assumes nothing.
use Rattle.dict.proofs.Slots as laws
use Rattle.slow_rules.proofs.keys_known.Given as goal

abbrev pub invariant-loop-i : goal.invariant-loop-i
invariant-loop-i l = laws.Looking l.entries l.keys l.n l.i
