-- `run_at` meets its contract: the numbers at the head, and the counts behind it. Assumes nothing.
use native.Mathlib.Omega.{arith}
use Rattle.slow_places.proofs.Runs.{runs-read, length-read, run-asked, run-found}
use Rattle.slow_places.proofs.run_at.Goals as goal

pub slice_bounds-run_of-end : goal.slice_bounds-run_of-end
slice_bounds-run_of-end c =
    omega (arith, length-read c.args.s.now c.number_at.ensures.0, c.requires.room)

pub run_of-run-requires : goal.run_of-run-requires
run_of-run-requires c =
    run-asked c.requires (runs-read _ c.number_at-runs.ensures.0) (length-read _ c.number_at.ensures.0)

pub returns : goal.returns
returns c =
    run-found (runs-read _ c.number_at-runs.ensures.0) (length-read _ c.number_at.ensures.0) c.run_of-run.ensures.0 c.run_of-run.ensures.1
