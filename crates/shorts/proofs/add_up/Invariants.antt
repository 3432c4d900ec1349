-- `shorts::add_up` meets its contract: what is added so far and what is left make up the whole. Assumes nothing.
use Rattle.shorts.specs.Shorts.{as_is}
use Rattle.shorts.proofs.Adding.{Adding}
use Rattle.shorts.proofs.add_up.Given as goal

abbrev pub invariant-loop-i : goal.invariant-loop-i
invariant-loop-i l = Adding as_is 255 l.s l.at l.sum l.i
