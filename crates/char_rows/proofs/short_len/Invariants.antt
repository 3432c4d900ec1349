-- `short_len` meets its contract. The loop's invariant: the nearest NUL so far. Assumes nothing.
use Prim.Native.Nat.{◌-◌}
use Rattle.char_rows.proofs.FirstNul.{Nearest}
use Rattle.char_rows.proofs.short_len.Given as goal

abbrev pub invariant-loop-k : goal.invariant-loop-k
invariant-loop-k l = Nearest l.w l.s l.i l.at l.k l.len

abbrev pub decreases-loop-k : goal.decreases-loop-k
decreases-loop-k l = l.w - l.k
