-- `slow_marks::slot_at` meets its contract: the law of a number of 32 bits, at the key's. Assumes nothing.
use native.Mathlib.Omega.{arith}
use Rattle.dict.proofs.Slots.{slot-found}
use Rattle.slow_numbers.specs.Numbers.{order_by}
use Rattle.slow_marks.proofs.slot_at.Goals as goal

pub returns : goal.returns
unfolding order_by
returns c =
    let a = c.args in
    (slot-found a.keys.now a.i c.number_at.ensures.0 c.number_at.ensures.1, omega arith)
