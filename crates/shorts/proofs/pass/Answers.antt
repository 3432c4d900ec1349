-- `shorts::pass` meets its contract. The loop keeps the groups so far, and what the next one is; the measure is the runs left. Assumes nothing.
use Prim.Native.Nat.{◌-◌}
use native.Mathlib.Nat.{add-zero}
use native.Mathlib.Omega.{arith}
use mathlib.Core.Path.{◌≡◌}
use Rattle.shorts.proofs.Groups.{passes_none, passes_on}
use Rattle.shorts.proofs.pass.Goals as goal

pub loop-next-init : goal.loop-next-init
loop-next-init c =
    let a : c.args.runs - 0 ≡ c.args.runs = omega arith in
    let b : c.args.rows - 0 ≡ c.args.rows = omega arith in
    (passes_none _ _ _ _, rw (add-zero c.args.from, a, b) c.group-next.ensures)

pub loop-next-preserved : goal.loop-next-preserved
loop-next-preserved c = (passes_on c.loop-next.invariant.0 (rw c.in-Some.is at c.loop-next.invariant.1), c.group-next-in-Some.ensures)
