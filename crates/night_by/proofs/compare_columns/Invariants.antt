-- `compare_columns` meets its contract. The loop's invariant: no column so far differs. Assumes nothing.
use mathlib.Core.Bool.{false}
use mathlib.Core.Path.{◌≡◌}
use lib.ListN.{length}
use Rattle.night_by.proofs.compare_columns.Given as goal

abbrev pub invariant-loop-j : goal.invariant-loop-j
invariant-loop-j l = (l.differs ≡ false) × (length l.one ≡ length l.initial.one) × (length l.other ≡ length l.initial.other)
