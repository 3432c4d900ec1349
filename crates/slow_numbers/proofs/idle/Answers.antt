-- `idle` meets its contract: a first byte may be 0. Assumes nothing.
use Rattle.slow_numbers.proofs.Counts.{idle-first, idle-later}
use Rattle.slow_numbers.proofs.idle.Goals as goal

pub returns-then-i-eq0 : goal.returns-then-i-eq0
returns-then-i-eq0 c = let a = c.args in idle-first a.i a.b c.if-i-eq0.true

pub returns : goal.returns
returns c = let a = c.args in idle-later a.i a.b c.if-i-eq0.false
