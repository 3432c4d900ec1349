-- `rle::walk_few` meets its contract. The loop keeps that the sum so far and the walk over the rest are the whole, whatever counts follow.
-- Assumes nothing.
use Prim.Native.Nat.{ℕ, ◌+◌, ◌-◌}
use Rattle.rle.proofs.Walking as laws
use Rattle.rle.proofs.walk_few.Given as goal

abbrev pub invariant-loop-i : goal.invariant-loop-i
invariant-loop-i l = (k : ℕ) → laws.Walking l.s (l.n + k) l.at l.total (l.n - l._i + k)
