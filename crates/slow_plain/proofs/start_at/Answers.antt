-- `start_at` meets its contract: the first item starts at 0, and each later one at the end of the one before it. Assumes nothing.
use mathlib.Core.Path.{◌∙◌}
use native.Mathlib.Omega.{arith}
use Rattle.plain.proofs.Ends.{start_first, start-later}
use Rattle.slow_plain.proofs.start_at.Goals as goal

pub returns-then-i-eq0 : goal.returns-then-i-eq0
returns-then-i-eq0 c = (start_first _ _ (omega arith), omega arith)

pub returns : goal.returns
returns c = (c.end_at.ensures.0 ∙ start-later _ _ c.if-i-eq0.false, c.end_at.ensures.1)
