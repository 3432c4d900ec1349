-- `sizes::keys_full` meets its contract: each return by the law of the tests and arms that led there. Assumes nothing.
use native.Mathlib.Omega.{arith}
use Rattle.sizes.proofs.Estimates as laws
use Rattle.sizes.proofs.keys_full.Goals as goal

pub returns-then-c-eq0 : goal.returns-then-c-eq0
returns-then-c-eq0 c = laws.no_keys _ _ c.if-c-eq0.true

pub overflow_mul-result : goal.overflow_mul-result
overflow_mul-result c = let few = c.requires in omega arith

pub overflow_add-result : goal.overflow_add-result
overflow_add-result c = let few = c.requires in omega arith

pub returns : goal.returns
returns c = laws.some-keys _ _ c.if-c-eq0.false
