-- `give_bytes` meets its contract. The loop's invariant is `Copying`. Assumes nothing.
use Rattle.area.proofs.Loops.{Copying}
use Rattle.slow_giving.proofs.give_bytes.Given as goal

abbrev pub invariant-loop-i : goal.invariant-loop-i
invariant-loop-i l = Copying l.s l.from l.len l.initial.bytes 0 l.bytes l.i
