-- `most` meets its contract: it counts in parts, and no text has more bytes than its item has that are no NULs. Assumes nothing.
use native.Mathlib.Omega.{arith}
use Rattle.char_rows.proofs.Letters.{bounding-start, bounding-step, bounding-end}
use Rattle.char_rows.proofs.most.Goals as goal

pub loop-left-init : goal.loop-left-init
loop-left-init c = bounding-start _ _ _ _

pub loop-left-smaller : goal.loop-left-smaller
loop-left-smaller c = omega arith

pub loop-left-preserved : goal.loop-left-preserved
loop-left-preserved c = bounding-step c.loop-left.invariant 240 c.loop-left-test.true c.count.ensures

pub returns : goal.returns
returns c = bounding-end c.loop-left.invariant c.count-2.ensures.0
