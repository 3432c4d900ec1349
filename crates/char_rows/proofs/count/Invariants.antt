-- `count` meets its contract: what is counted so far and what is left make up the whole. Assumes nothing.
use Prim.Native.Nat.{◌-◌}
use Rattle.char_rows.proofs.Letters.{Counting}
use Rattle.char_rows.proofs.count.Given as goal

abbrev pub invariant-loop-i : goal.invariant-loop-i
invariant-loop-i l = Counting l.s l.at l.n l.found l.i

abbrev pub decreases-loop-i : goal.decreases-loop-i
decreases-loop-i l = l.n - l.i
