-- `text_len` meets its contract: no group that the loop passed has a NUL, and the first NUL of the next one ends the text. Assumes nothing.
use Prim.Native.Nat.{◌-◌}
use Rattle.plain.proofs.Chars.{Uncut}
use Rattle.char_rows.proofs.text_len.Given as goal

abbrev pub invariant-loop-n : goal.invariant-loop-n
invariant-loop-n l = Uncut l.w l.s l.i l.at l.n

abbrev pub decreases-loop-n : goal.decreases-loop-n
decreases-loop-n l = l.w - l.n
