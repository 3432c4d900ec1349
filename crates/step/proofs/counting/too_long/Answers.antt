-- `step::too_long` meets its contract: each return by the law of the tests and arms that led there. Assumes nothing.
use mathlib.Core.Path.{refl}
use Rattle.encode.proofs.Bools.{and_then, and-not}
use Rattle.step.proofs.counting.too_long.Goals as goal

pub returns-then-stored : goal.returns-then-stored
returns-then-stored c = and_then _ refl c.if-stored.true

pub returns : goal.returns
returns c = and-not _ refl c.if-stored.false
