-- `compare_from` meets its contract. What is lent keeps its length. Assumes nothing.
use mathlib.Core.Path.{◌≡◌}
use lib.ListN.{length}
use Rattle.night_rows.proofs.compare_from.Given as goal

abbrev pub invariant-loop-r : goal.invariant-loop-r
invariant-loop-r l = (length l.one ≡ length l.initial.one) × (length l.other ≡ length l.initial.other)
