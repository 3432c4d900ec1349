-- `lookup::finding::same_as` meets its contract. The loop's invariant is `Matching`. Assumes nothing.
use native.Mathlib.Omega.{arith}
use mathlib.Core.Path.{refl}
use Rattle.lookup.proofs.Alike.{matching-start, matching-step, matching-other, matching-all}
use Rattle.lookup.proofs.finding.same_as.Goals as goal

pub loop-i-init : goal.loop-i-init
loop-i-init c = matching-start _ _ _ _

pub returns-then-s-from : goal.returns-then-s-from
returns-then-s-from c =
    matching-other c.requires refl c.loop-i.invariant (omega arith) c.if-s-from.true

pub loop-i-preserved : goal.loop-i-preserved
loop-i-preserved c =
    matching-step c.requires refl c.loop-i.invariant (omega arith) c.if-s-from.false

pub returns : goal.returns
returns c = matching-all c.requires refl c.loop-i.invariant (omega arith)
