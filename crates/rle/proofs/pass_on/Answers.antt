-- `rle::pass_on` meets its contract. The loop keeps where the rows that are left to pass lead to; the measure is the runs ahead. Assumes nothing.
use Prim.Native.Nat.{◌+◌, ◌≤◌}
use native.Mathlib.Omega.{arith}
use mathlib.Core.Path.{refl, ◌∙◌}
use Rattle.rle.proofs.Advancing.{going_end, going-past}
use Rattle.rle.proofs.ShortRuns.{grouped-inside, part-stuck, part-there, part-on}
use Rattle.rle.proofs.pass_on.Goals as goal

pub loop-left-init : goal.loop-left-init
loop-left-init c = (record { whole = refl }, omega arith, omega arith)

pub returns-then-runs-run : goal.returns-then-runs-run
returns-then-runs-run c = going-past c.loop-left.invariant.0 (omega arith) (omega arith)

pub returns-in_err-gone : goal.returns-in_err-gone
returns-in_err-gone c =
    let inside : c.loop-left.run + c.pass-short.result.runs ≤ c.args.runs = grouped-inside c.loop-left.invariant.0 (omega arith) c.pass-short.ensures in
    let stop-within : c.loop-left.run + c.pass-short.result.runs + c.min-few.result ≤ c.args.runs = omega (arith, c.min-few.ensures, inside) in
    c.from_residual.ensures ∙ part-stuck c.loop-left.invariant.0 (omega arith) c.pass-short.ensures (stop-within) c.pass_runs.ensures c.in_err-gone.was

pub returns-then-gone-eq0 : goal.returns-then-gone-eq0
returns-then-gone-eq0 c =
    let inside : c.loop-left.run + c.pass-short.result.runs ≤ c.args.runs = grouped-inside c.loop-left.invariant.0 (omega arith) c.pass-short.ensures in
    let stop-within : c.loop-left.run + c.pass-short.result.runs + c.min-few.result ≤ c.args.runs = omega (arith, c.min-few.ensures, inside) in
    part-there c.loop-left.invariant.0 (omega arith) c.pass-short.ensures (stop-within) c.pass_runs.ensures c.in_ok-gone.was (omega arith)

pub loop-left-preserved : goal.loop-left-preserved
loop-left-preserved c =
    let inside : c.loop-left.run + c.pass-short.result.runs ≤ c.args.runs = grouped-inside c.loop-left.invariant.0 (omega arith) c.pass-short.ensures in
    let stop-within : c.loop-left.run + c.pass-short.result.runs + c.min-few.result ≤ c.args.runs = omega (arith, c.min-few.ensures, inside) in (
      part-on c.loop-left.invariant.0 (omega arith) c.pass-short.ensures (stop-within) c.pass_runs.ensures c.in_ok-gone.was (omega arith),
      omega arith,
      c.next_few-most.ensures,
    )

pub returns : goal.returns
returns c = going_end c.loop-left.invariant.0 (omega arith)
