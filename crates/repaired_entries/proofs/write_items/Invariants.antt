-- `repaired_entries::write_items` meets its contract. The loop's invariant is `Items`, its measure the rows that are left. Assumes nothing.
use Rattle.repaired_entries.proofs.Laying as laws
use Rattle.repaired_entries.proofs.write_items.Given as goal

abbrev pub invariant-loop-left : goal.invariant-loop-left
invariant-loop-left l = laws.Items l.kind l.entries l.runs l.counts l.keys l.items l.n l.initial.out l.at l.out l.bits l.met l.to l.left l.x

abbrev pub decreases-loop-left : goal.decreases-loop-left
decreases-loop-left l = l.left
