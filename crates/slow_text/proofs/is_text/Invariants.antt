-- `is_text` meets its contract. The loop's invariant: what is due, and the bytes that are left, decide what is due in the end. Assumes nothing.
use Rattle.std.specs.Prelude.{Some}
use Rattle.slow_text.proofs.Going.{Going}
use Rattle.slow_text.proofs.is_text.Given as goal

abbrev pub invariant-loop-i : goal.invariant-loop-i
invariant-loop-i l = Going l.s l.from l.n (Some l.d) l.i
