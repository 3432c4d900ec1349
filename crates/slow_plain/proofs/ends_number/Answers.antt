-- `ends_number` meets its contract. The loop's invariant: the ends that are left decide whether all of them rise and which is the last. Assumes nothing.
use mathlib.Core.Path.{sym, ◌∙◌}
use native.Mathlib.Omega.{arith}
use Rattle.plain.proofs.Ends.{rising-start, rising_step, rising-all, end_falls, end-passes, ends-missing, ends-wrong, last-other, last-same}
use Rattle.slow_plain.proofs.ends_number.Goals as goal

pub returns-then-s-n : goal.returns-then-s-n
returns-then-s-n c = ends-missing _ _ c.if-s-n.true

pub loop-i-init : goal.loop-i-init
loop-i-init c = rising-start _ _ _

pub returns-then-end-before : goal.returns-then-end-before
returns-then-end-before c = ends-wrong _ _ (omega arith) (end_falls c.loop-i.invariant (omega arith) c.end_at-end.ensures.0 (omega arith))

pub returns-then-data-end : goal.returns-then-data-end
returns-then-data-end c =
    ends-wrong _ _ (omega arith) (end-passes c.loop-i.invariant (omega arith) c.end_at-end.ensures.0 (omega arith) (omega arith))

pub loop-i-preserved : goal.loop-i-preserved
loop-i-preserved c = rising_step c.loop-i.invariant (omega arith) c.end_at-end.ensures.0 (omega arith) (omega arith)

pub returns-then-before-data : goal.returns-then-before-data
returns-then-before-data c =
    let r = rising-all c.loop-i.invariant (omega arith) in
    last-other _ _ (omega arith) r.0 (λ e. c.if-before-data.true (sym r.1 ∙ e))

pub returns : goal.returns
returns c =
    let r = rising-all c.loop-i.invariant (omega arith) in
    last-same _ _ (omega arith) r.0 (r.1 ∙ c.if-before-data.false)
