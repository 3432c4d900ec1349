-- `nullable_number` meets its contract: each return by the law of the rule that it stands for. Assumes nothing.
use native.Mathlib.Omega.{arith}
use mathlib.Core.Path.{sym}
use lib.Seq.{length-take-le}
use Rattle.nullable.proofs.Number as laws
use Rattle.slow_numbers.specs.Numbers.{order_by}
use Rattle.slow_rules.proofs.nullable_number.Goals as goal

pub returns-then-len-lt4 : goal.returns-then-len-lt4
returns-then-len-lt4 c = laws.no-trailer _ _ _ (omega arith)

pub returns-then-number_at-bits : goal.returns-then-number_at-bits
unfolding order_by
returns-then-number_at-bits c = laws.other_length _ _ _ (omega arith) c.number_at.ensures.0 c.bitmap_len-bits.ensures c.if-number_at-bits.true

pub returns-then-len-bits : goal.returns-then-len-bits
unfolding order_by
returns-then-len-bits c =
    laws.no-bitmap _ _ _ (omega arith) c.number_at.ensures.0 c.bitmap_len-bits.ensures
    (omega arith) (omega arith)

-- the part that is lent has the length that the code gives it
pub slice_bounds-plain_number-end : goal.slice_bounds-plain_number-end
slice_bounds-plain_number-end c = sym (length-take-le _ _ (omega arith))

pub returns : goal.returns
unfolding order_by
returns c =
    laws.then-plain _ _ _ (omega arith) c.number_at.ensures.0
    c.bitmap_len-bits.ensures (omega arith) (omega arith) c.plain_number.ensures
