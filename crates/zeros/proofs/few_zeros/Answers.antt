-- `zeros::few_zeros` meets its contract. The loop's invariant is `Counting`. Assumes nothing.
use native.Mathlib.Omega.{arith}
use Rattle.zeros.proofs.Counting as laws
use Rattle.zeros.proofs.few_zeros.Goals as goal

pub loop-i-init : goal.loop-i-init
loop-i-init c = laws.counting-start _ _ _

pub overflow_add-count : goal.overflow_add-count
overflow_add-count c =
    let f = c.loop-i.invariant.few in
    let z = c.one_if_zero-count.ensures.1 in
    record { fits = omega arith }

pub loop-i-preserved : goal.loop-i-preserved
loop-i-preserved c = laws.counting-one c.loop-i.invariant (omega arith) (omega arith) c.one_if_zero-count.ensures.0

pub returns : goal.returns
returns c = laws.counting-end c.loop-i.invariant (omega arith)
