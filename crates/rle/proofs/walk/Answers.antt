-- `rle::walk` meets its contract. The loop keeps that the sum so far and the walk over the rest are the whole; the measure is the runs left.
-- Assumes nothing.
use Prim.Native.Nat.{◌-◌, ◌≤◌}
use native.Mathlib.Omega.{arith}
use mathlib.Core.Path.{ap}
use Rattle.std.proofs.lemmas.Result.{err_from_is_err_and}
use Rattle.limits.specs.Refusals.{by_number}
use Rattle.rle.proofs.Walking.{walking_start, walk-over, walk-sum, first-refused, first_counted}
use Rattle.rle.proofs.ShortRuns.{walking-shorts}
use Rattle.rle.proofs.walk.Goals as goal

pub loop-left-init : goal.loop-left-init
loop-left-init c = (walking_start _ _, omega arith)

pub returns-in_err-first : goal.returns-in_err-first
returns-in_err-first c =
    let few-within : c.min-few.result ≤ c.loop-left.left - c.pass-short.result.runs = omega (arith, c.min-few.ensures) in
    let p = err_from_is_err_and c.from_residual.result c.from_residual.ensures.1 in
    rw (p.1, p.2)
    (first-refused (walking-shorts c.loop-left.invariant.0 c.pass-short.ensures) few-within c.walk_few.ensures (ap by_number c.in_err-first.was))

pub loop-left-preserved : goal.loop-left-preserved
loop-left-preserved c =
    let few-within : c.min-few.result ≤ c.loop-left.left - c.pass-short.result.runs = omega (arith, c.min-few.ensures) in (
      first_counted (walking-shorts c.loop-left.invariant.0 c.pass-short.ensures) few-within c.walk_few.ensures (ap by_number c.in_ok-first.was),
      c.next_few-most.ensures,
    )

pub returns-then-at-s : goal.returns-then-at-s
returns-then-at-s c = walk-over c.loop-left.invariant.0 (omega arith) (omega arith)

pub returns : goal.returns
returns c = walk-sum c.loop-left.invariant.0 (omega arith) (omega arith)
