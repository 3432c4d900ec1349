-- `check_ends` meets its contract. The loop's invariant: the ends that are left decide whether all of them rise and which is the last.
-- Assumes nothing.
use mathlib.Core.Path.{sym, ◌∙◌}
use native.Mathlib.Omega.{arith}
use Rattle.plain.proofs.Ends.{rising-start, rising_step, rising-all, end_falls, end-passes, ends-wrong, last-other, last-same}
use Rattle.plain.proofs.check_ends.Goals as goal

pub loop-i-init : goal.loop-i-init
loop-i-init c = rising-start _ _ _

pub returns-then-end-last : goal.returns-then-end-last
returns-then-end-last c = ends-wrong _ _ (omega arith) (end_falls c.loop-i.invariant (omega arith) c.end_at-end.ensures.0 (omega arith))

pub returns-then-data-end : goal.returns-then-data-end
returns-then-data-end c = ends-wrong _ _ (omega arith) (end-passes c.loop-i.invariant (omega arith) c.end_at-end.ensures.0 (omega arith) (omega arith))

pub loop-i-preserved : goal.loop-i-preserved
loop-i-preserved c = rising_step c.loop-i.invariant (omega arith) c.end_at-end.ensures.0 (omega arith) (omega arith)

pub returns-then-last-data : goal.returns-then-last-data
returns-then-last-data c = let r = rising-all c.loop-i.invariant (omega arith) in last-same _ _ (omega arith) r.0 (r.1 ∙ omega arith)

pub returns-else-last-data : goal.returns-else-last-data
returns-else-last-data c = let r = rising-all c.loop-i.invariant (omega arith) in last-other _ _ (omega arith) r.0 (λ e. c.if-last-data.false (sym r.1 ∙ e))
