-- `shorts::count_short` meets its contract: what is counted so far and what is left make up the whole. Assumes nothing.
use Rattle.shorts.specs.Shorts.{shortness}
use Rattle.shorts.proofs.Adding.{Adding}
use Rattle.shorts.proofs.count_short.Given as goal

abbrev pub invariant-loop-i : goal.invariant-loop-i
invariant-loop-i l = Adding shortness 1 l.s l.at l.found l.i
