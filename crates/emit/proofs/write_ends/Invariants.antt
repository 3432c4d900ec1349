-- `write_ends` meets its contract. The loop's invariant is `Laying`. Assumes nothing.
use Prim.Native.Nat.{ℕ}
use Rattle.encode.specs.Bytes.{little}
use Rattle.emit.proofs.SlotLoops as laws
use Rattle.emit.proofs.write_ends.Given as goal

abbrev pub invariant-loop-i : goal.invariant-loop-i
invariant-loop-i l = laws.Laying ℕ (little 4) l.ends l.n l.initial.out l.at l.out l.to l.i
