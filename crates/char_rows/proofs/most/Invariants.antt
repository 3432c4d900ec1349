-- `most` meets its contract: it counts in parts, and no text has more bytes than its item has that are no NULs. Assumes nothing.
use Rattle.char_rows.proofs.Letters.{Bounding}
use Rattle.char_rows.proofs.most.Given as goal

abbrev pub invariant-loop-left : goal.invariant-loop-left
invariant-loop-left l = Bounding l.w l.s l.from l.n l.at l.left l.found

abbrev pub decreases-loop-left : goal.decreases-loop-left
decreases-loop-left l = l.left
