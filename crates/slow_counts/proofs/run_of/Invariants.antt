-- `run_of` meets its contract. The loop keeps which row of the runs left is the one asked for. Assumes nothing.
use Rattle.slow_counts.proofs.Leaving.{Leaving}
use Rattle.slow_counts.proofs.run_of.Given as goal

abbrev pub invariant-loop-run : goal.invariant-loop-run
invariant-loop-run l = Leaving l.counts l.runs l.row l.left l.at l.run
