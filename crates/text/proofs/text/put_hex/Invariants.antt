-- `put_hex` meets its contract. The loop's invariant is `Hexing`. Assumes nothing.
use Prim.Native.Nat.{◌*◌}
use Rattle.text.proofs.Laying as laws
use Rattle.text.proofs.text.put_hex.Given as goal

abbrev pub invariant-loop-i : goal.invariant-loop-i
invariant-loop-i l = laws.Hexing l.bytes l.initial.out l.out l.i (2 * l.i)
