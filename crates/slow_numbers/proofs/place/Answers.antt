-- `place` meets its contract: so many bytes from the first on, or back from the last. Assumes nothing.
use Rattle.slow_numbers.proofs.Digits.{place-high, place-low}
use Rattle.slow_numbers.proofs.place.Goals as goal

pub returns-then-high : goal.returns-then-high
returns-then-high c = let a = c.args in place-high a.at a.w a.i c.if-high.true

pub returns : goal.returns
returns c = let a = c.args in place-low a.at a.w a.i c.if-high.false
