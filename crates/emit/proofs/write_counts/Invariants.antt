-- `write_counts` meets its contract. The loop's invariant is `Laying`. Assumes nothing.
use Prim.Native.Nat.{ℕ}
use Rattle.varint.specs.Varint.{spelling}
use Rattle.emit.proofs.SlotLoops as laws
use Rattle.emit.proofs.write_counts.Given as goal

abbrev pub invariant-loop-i : goal.invariant-loop-i
invariant-loop-i l = laws.Laying ℕ spelling l.counts l.n l.initial.out l.at l.out l.to l.i
