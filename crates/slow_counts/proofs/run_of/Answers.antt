-- `run_of` meets its contract. The loop keeps which row of the runs left is the one asked for. Assumes nothing.
use native.Mathlib.Omega.{arith}
use Rattle.slow_counts.proofs.Leaving.{leaving-start, leaving-never, leaving-bad, leaving-here, leaving-len, leaving-step}
use Rattle.slow_counts.proofs.run_of.Goals as goal

pub loop-run-init : goal.loop-run-init
loop-run-init c = leaving-start c.requires.2

pub returns-in_default : goal.returns-in_default
returns-in_default c =
    absurd (leaving-bad c.loop-run.invariant (omega arith) c.count_at.ensures c.in_default.is)

pub returns-then-left-count : goal.returns-then-left-count
returns-then-left-count c =
    leaving-here c.loop-run.invariant (omega arith) c.count_at.ensures c.in-Some.is (omega arith)

pub overflow_add-at : goal.overflow_add-at
overflow_add-at c =
    omega (arith, leaving-len c.loop-run.invariant (omega arith) c.count_at.ensures c.in-Some.is)

pub loop-run-preserved : goal.loop-run-preserved
loop-run-preserved c =
    leaving-step c.loop-run.invariant (omega arith) c.count_at.ensures c.in-Some.is (omega arith)

pub returns : goal.returns
returns c = absurd (leaving-never c.loop-run.invariant (omega arith))
