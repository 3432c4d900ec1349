-- `count_at` meets its contract. The loop's invariant: what the bytes that were passed make of the rest. Assumes nothing.
use Rattle.slow_numbers.proofs.Counts.{Passed}
use Rattle.slow_numbers.proofs.count_at.Given as goal

abbrev pub invariant-loop-i : goal.invariant-loop-i
invariant-loop-i l = Passed l.s l.at l.value l.worth l.i
