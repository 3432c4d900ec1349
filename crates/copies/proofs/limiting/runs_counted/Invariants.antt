-- `copies::runs_counted` meets its contract. The loop's invariant is `Going`: the rows that are left, behind the numbers so far, make the numbers of all. Assumes
-- nothing.
use mathlib.Core.Bool.{cond}
use Rattle.copies.specs.Stretch.{grown_times}
use Rattle.copies.proofs.Numbers as laws
use Rattle.copies.proofs.limiting.runs_counted.Given as goal

abbrev pub invariant-loop-left : goal.invariant-loop-left
invariant-loop-left l = laws.Going l.kind l.e (cond l.present 1 0) l.len (grown_times l.e (cond l.present 1 0) l.len l.initial.left l.initial.now) l.now l.left

abbrev pub decreases-loop-left : goal.decreases-loop-left
decreases-loop-left l = l.left
