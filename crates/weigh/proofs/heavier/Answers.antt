-- `weigh::heavier` meets its contract: the sum fits, and is held at 4,294,967,296. Assumes nothing.
use mathlib.Core.Path.{sym}
use native.Mathlib.Omega.{arith}
use Rattle.weigh.proofs.Weights as laws
use Rattle.weigh.proofs.heavier.Goals as goal

pub overflow_mul-sum : goal.overflow_mul-sum
overflow_mul-sum c = omega (arith, laws.product c.args.rows c.args.len (omega arith) (omega arith))

pub overflow_add-sum : goal.overflow_add-sum
overflow_add-sum c = omega (arith, laws.product c.args.rows c.args.len (omega arith) (omega arith))

pub returns-then-sum-gt-PAST_GIVEN : goal.returns-then-sum-gt-PAST_GIVEN
returns-then-sum-gt-PAST_GIVEN c = sym (laws.capped-large _ c.if-sum-gt-PAST_GIVEN.true)

pub returns : goal.returns
returns c = sym (laws.capped_small _ c.if-sum-gt-PAST_GIVEN.false)
