-- `number_at` meets its contract. The loop's invariant: what the bytes that were taken are worth. Assumes nothing.
use Rattle.slow_numbers.proofs.Digits.{Taken}
use Rattle.slow_numbers.proofs.number_at.Given as goal

abbrev pub invariant-loop-i : goal.invariant-loop-i
invariant-loop-i l = Taken l.s l.at l.w l.high l.i l.n
