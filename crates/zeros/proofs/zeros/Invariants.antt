-- `zeros::zeros` meets its contract. The loop's invariant is `Counting` from the first byte on, its measure the bytes that are left. Assumes nothing.
use Prim.Native.Nat.{◌-◌}
use Rattle.zeros.proofs.Counting as laws
use Rattle.zeros.proofs.zeros.Given as goal

abbrev pub invariant-loop-at : goal.invariant-loop-at
invariant-loop-at l = laws.Counting l.s 0 l.n l.total l.at

abbrev pub decreases-loop-at : goal.decreases-loop-at
decreases-loop-at l = l.n - l.at
