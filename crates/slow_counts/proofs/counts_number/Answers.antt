-- `counts_number` meets its contract. The loop keeps that the sum so far and the walk over the rest are the whole. Assumes
-- nothing.
use native.Mathlib.Omega.{arith}
use Rattle.rle.proofs.Walking.{walk-used, walk-bad, walk-zero, walk-within, walk-over, walk-sum}
use Rattle.slow_counts.proofs.Sums.{sums-start, sums-step, number-refused, number-other, number_same}
use Rattle.slow_counts.proofs.counts_number.Goals as goal

pub loop-i-init : goal.loop-i-init
loop-i-init c = sums-start _ _

pub returns-then-counts-at : goal.returns-then-counts-at
returns-then-counts-at c = number-refused _ (walk-used c.loop-i.invariant (omega arith) (omega arith))

pub returns-in_default : goal.returns-in_default
returns-in_default c =
    number-refused _ (walk-bad c.loop-i.invariant (omega arith) (omega arith) c.count_at.ensures c.in_default.is)

pub returns-then-count-eq0 : goal.returns-then-count-eq0
returns-then-count-eq0 c =
    number-refused _ (walk-zero c.loop-i.invariant (omega arith) (omega arith) c.count_at.ensures c.in-Some.is (omega arith))

pub overflow_add-sum : goal.overflow_add-sum
overflow_add-sum c =
    omega (arith, c.loop-i.invariant.small, c.loop-i.invariant.within)

pub overflow_add-at : goal.overflow_add-at
overflow_add-at c =
    omega (arith, walk-within c.loop-i.invariant (omega arith) (omega arith) c.count_at.ensures c.in-Some.is)

pub loop-i-preserved : goal.loop-i-preserved
loop-i-preserved c =
    sums-step c.loop-i.invariant (omega arith) (omega arith) c.count_at.ensures c.in-Some.is c.if-count-eq0.false

pub returns-then-at-counts : goal.returns-then-at-counts
returns-then-at-counts c = number-refused _ (walk-over c.loop-i.invariant (omega arith) (omega arith))

pub returns-then-sum-rows : goal.returns-then-sum-rows
returns-then-sum-rows c = number-other _ (walk-sum c.loop-i.invariant (omega arith) (omega arith)) c.if-sum-rows.true

pub returns : goal.returns
returns c = number_same _ (walk-sum c.loop-i.invariant (omega arith) (omega arith)) (omega arith)
