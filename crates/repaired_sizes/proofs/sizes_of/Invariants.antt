-- `repaired_sizes::sizes_of` meets its contract. The loop's invariant is `Sizing`; its measure is the rows that are left. Assumes nothing.
use Rattle.repaired_sizes.proofs.Sizing as laws
use Rattle.repaired_sizes.proofs.sizes_of.Given as goal

abbrev pub invariant-loop-left : goal.invariant-loop-left
invariant-loop-left l = laws.Sizing l.kind l.entries l.runs l.counts l.keys l.items l.n l.initial.firsts l.firsts l.met l.sizes l.left l.x

abbrev pub decreases-loop-left : goal.decreases-loop-left
decreases-loop-left l = l.left
