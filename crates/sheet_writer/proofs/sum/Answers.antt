-- `sheet_writer::sum` meets its contract. The loop's invariant is `Summing`. Assumes nothing.
use native.Mathlib.Omega.{arith}
use mathlib.Core.Path.{sym}
use Rattle.std.proofs.lemmas.Result.{err_from_is_err_and}
use Rattle.limits.proofs.Refused.{refusal-above}
use Rattle.sheet_writer.proofs.Loops as laws
use Rattle.sheet_writer.proofs.sum.Goals as goal

pub loop-i-init : goal.loop-i-init
loop-i-init c = laws.summing_start _ _ _

pub check-requires : goal.check-requires
check-requires c = (omega (arith, c.loop-i.invariant), c.loop-i.invariant.inside)

pub returns-in_err-check : goal.returns-in_err-check
returns-in_err-check c =
    let p = err_from_is_err_and c.from_residual.result c.from_residual.ensures.1 in
    rw (p.1, p.2) (laws.summing-bad c.loop-i.invariant (omega arith) _ c.in_err-check.ensures (refusal-above _))

pub overflow_add-at-in-loop-i : goal.overflow_add-at-in-loop-i
overflow_add-at-in-loop-i c = omega (arith, laws.summing-held c.loop-i.invariant (omega arith) (sym c.in_ok-check.ensures))

pub loop-i-preserved : goal.loop-i-preserved
loop-i-preserved c = laws.summing-step c.loop-i.invariant (omega arith) (sym c.in_ok-check.ensures)

pub returns : goal.returns
returns c = laws.summing-end c.loop-i.invariant (omega arith)
