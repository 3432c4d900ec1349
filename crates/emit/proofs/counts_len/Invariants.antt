-- `counts_len` meets its contract. The loop's invariant is `Measuring`. Assumes nothing.
use Rattle.emit.proofs.SlotLoops as laws
use Rattle.emit.proofs.counts_len.Given as goal

abbrev pub invariant-loop-i : goal.invariant-loop-i
invariant-loop-i l = laws.Measuring l.counts l.n l.len l.i
