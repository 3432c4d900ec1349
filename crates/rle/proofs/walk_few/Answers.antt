-- `rle::walk_few` meets its contract. The loop keeps that the sum so far and the walk over the rest are the whole, whatever counts follow.
-- Assumes nothing.
use Prim.Native.Nat.{◌+◌, ◌-◌}
use mathlib.Core.Path.{◌≡◌}
use native.Mathlib.Omega.{arith}
use Rattle.rle.proofs.Walking as laws
use Rattle.rle.proofs.walk_few.Goals as goal

pub loop-i-init : goal.loop-i-init
loop-i-init c = λ k. let m : c.args.n - 0 + k ≡ c.args.n + k = omega arith in rw m (laws.walking_start _ _)

pub returns-then-s-at : goal.returns-then-s-at
returns-then-s-at c = laws.few-refused _ (λ k. laws.walk-used (c.loop-i.invariant k) (omega arith) (omega arith))

pub returns-in_default : goal.returns-in_default
returns-in_default c =
    laws.few-refused _ (λ k. laws.walk-bad (c.loop-i.invariant k) (omega arith) (omega arith) c.decode_u32.ensures c.in_default.is)

pub returns-then-count-eq0 : goal.returns-then-count-eq0
returns-then-count-eq0 c =
    laws.few-refused _ (λ k.
    laws.walk-zero (c.loop-i.invariant k) (omega arith) (omega arith) c.decode_u32.ensures c.in-Some.is (omega arith))

pub overflow_add-total : goal.overflow_add-total
overflow_add-total c =
    omega (arith, (c.loop-i.invariant 0).small, (c.loop-i.invariant 0).within)

pub overflow_add-at : goal.overflow_add-at
overflow_add-at c =
    omega (arith, laws.walk-within (c.loop-i.invariant 0) (omega arith) (omega arith) c.decode_u32.ensures c.in-Some.is)

pub loop-i-preserved : goal.loop-i-preserved
loop-i-preserved c =
    λ k.
    let m : c.args.n - c.loop-i._i - 1 + k ≡ c.args.n - (c.loop-i._i + 1) + k = omega arith in
    rw c.from-total.ensures (rw m at (laws.few-step _ c.loop-i.invariant (omega arith) (omega arith) c.decode_u32.ensures c.in-Some.is c.if-count-eq0.false k))

pub returns : goal.returns
returns c = laws.few-counted _ c.loop-i.invariant (omega arith)
