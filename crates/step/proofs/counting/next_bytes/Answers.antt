-- `step::next_bytes` meets its contract: each return by the law of the tests and arms that led there. Assumes nothing.
use native.Mathlib.Omega.{arith}
use mathlib.Core.Path.{refl}
use Rattle.needs.proofs.Encodings.{cond-then, cond-else}
use Rattle.step.proofs.counting.next_bytes.Goals as goal

pub overflow_add-result : goal.overflow_add-result
overflow_add-result c = let h = c.requires.1 c.if-stored.true in omega arith

pub returns-then-stored : goal.returns-then-stored
returns-then-stored c = cond-then _ _ refl c.if-stored.true

pub returns : goal.returns
returns c = cond-else _ _ refl c.if-stored.false
