-- `counts_number` meets its contract. The loop keeps that the sum so far and the walk over the rest are the whole. Assumes
-- nothing.
use Prim.Native.Nat.{◌-◌}
use Rattle.rle.proofs.Walking.{Walking}
use Rattle.slow_counts.proofs.counts_number.Given as goal

abbrev pub invariant-loop-i : goal.invariant-loop-i
invariant-loop-i l = Walking l.counts l.runs l.at l.sum (l.runs - l.i)
