-- `compare_powers` meets its contract. The loop's invariant is `Met`: the powers met so far are those that are due. Its measure is what is left. Assumes nothing.
use Prim.Native.Nat.{◌-◌}
use mathlib.Core.Path.{◌≡◌}
use lib.ListN.{length}
use Rattle.night_rows.proofs.Powers as laws
use Rattle.night_rows.proofs.compare_powers.Given as goal

abbrev pub invariant-loop-r : goal.invariant-loop-r
invariant-loop-r l = laws.Met l.to l.r l.n × (length l.one ≡ length l.initial.one) × (length l.other ≡ length l.initial.other)

abbrev pub decreases-loop-r : goal.decreases-loop-r
decreases-loop-r l = l.to - l.r
