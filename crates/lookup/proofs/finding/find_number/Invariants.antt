-- `lookup::finding::find_number` meets its contract. The loop's invariant is `Seeking`. Assumes nothing.
use Rattle.lookup.proofs.Words.{Seeking}
use Rattle.lookup.proofs.finding.find_number.Given as goal

abbrev pub invariant-loop-i : goal.invariant-loop-i
invariant-loop-i g l = Seeking g.row.W l.items l.n l.want l.at l.i
