-- `lookup::finding::same_as` meets its contract. The loop's invariant is `Matching`. Assumes nothing.
use lib.ListN.{length}
use Rattle.lookup.proofs.Alike.{Matching}
use Rattle.lookup.proofs.finding.same_as.Given as goal

abbrev pub invariant-loop-i : goal.invariant-loop-i
invariant-loop-i l = Matching l.s l.from (length l.t) l.t l.i
