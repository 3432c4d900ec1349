-- `nullable::flags` meets its contract. The loop's invariant is `Telling` of the bits, its measure the rows that are left. Assumes nothing.
use Prim.Native.Nat.{ℕ, ◌-◌}
use Rattle.nullable.specs.Nullable.{bit_at}
use Rattle.nullable.proofs.Rows as laws
use Rattle.nullable.proofs.flags.Given as goal

abbrev pub invariant-loop-i : goal.invariant-loop-i
invariant-loop-i l = laws.Telling ℕ (bit_at l.bitmap) l.from l.n l.initial.out l.out l.i

abbrev pub decreases-loop-i : goal.decreases-loop-i
decreases-loop-i l = l.n - l.i
