-- `write_keys` meets its contract. The loop's invariant is `Laying`. Assumes nothing.
use Prim.Native.Nat.{ℕ}
use mathlib.Core.List.{List}
use lib.IntN.{ℤ}
use mir.Syntax.{w32}
use mir.Val.{of_z}
use Rattle.encode.specs.Bytes.{little}
use Rattle.emit.proofs.SlotLoops as laws
use Rattle.emit.proofs.write_keys.Given as goal

abbrev pub bytes : ℤ → List ℕ
bytes key = little 4 (of_z w32 key)

abbrev pub invariant-loop-i : goal.invariant-loop-i
invariant-loop-i l = laws.Laying ℤ bytes l.keys l.n l.initial.out l.at l.out l.to l.i
