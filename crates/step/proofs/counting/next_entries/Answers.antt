-- `step::next_entries` meets its contract: each return by the law of the tests and arms that led there. Assumes nothing.
use mathlib.Core.Path.{refl}
use Rattle.needs.proofs.Encodings.{cond-then, cond-else}
use Rattle.step.proofs.counting.next_entries.Goals as goal

pub returns-then-stored : goal.returns-then-stored
returns-then-stored c = cond-then _ _ refl c.if-stored.true

pub returns : goal.returns
returns c = cond-else _ _ refl c.if-stored.false
