-- `format::check_runs` meets its contract: each return by the law of the head that was found. Assumes nothing.
use Rattle.std.specs.Prelude.{Ok}
use Rattle.std.proofs.lemmas.Result.{err_from_is_err_and}
use mathlib.Core.Path.{refl, ap, ◌∙◌}
use native.Mathlib.Omega.{arith}
use Rattle.limits.proofs.Refused.{refusal-some}
use Rattle.format.proofs.RunBlocks as laws
use Rattle.format.proofs.check_runs.Goals as goal

pub returns-in_err-found : goal.returns-in_err-found
returns-in_err-found c =
    let p = err_from_is_err_and c.from_residual.result c.from_residual.ensures.1 in
    rw (p.1, p.2) (laws.head-wrong _ _ _ c.in_err-found.ensures refl)

pub returns-in_default : goal.returns-in_default
returns-in_default c = c.bare.ensures ∙ laws.no_block _ _ _ c.in_ok-found.ensures (ap Ok c.in_default.is)

pub overflow_add-end : goal.overflow_add-end
overflow_add-end c =
    let sound = laws.head-right _ _ c.in_ok-found.ensures (ap Ok c.in-Some.is) in
    omega (arith, sound.room)

pub slice_bounds-check_inner-count : goal.slice_bounds-check_inner-count
slice_bounds-check_inner-count c = (laws.head-right _ _ c.in_ok-found.ensures (ap Ok c.in-Some.is)).room

pub slice_bounds-check_inner-start : goal.slice_bounds-check_inner-start
slice_bounds-check_inner-start c = (laws.head-right _ _ c.in_ok-found.ensures (ap Ok c.in-Some.is)).room

pub check_inner-requires : goal.check_inner-requires
check_inner-requires c = (laws.head-right _ _ c.in_ok-found.ensures (ap Ok c.in-Some.is)).many

pub returns-in_err-check_inner : goal.returns-in_err-check_inner
returns-in_err-check_inner c =
    let p = err_from_is_err_and c.from_residual-in_err-check_inner.result c.from_residual-in_err-check_inner.ensures.1 in
    rw (p.1, p.2)
    (laws.inner-wrong _ _ _ c.in_ok-found.ensures (ap Ok c.in-Some.is) c.in_err-check_inner.ensures (refusal-some _))

pub returns : goal.returns
returns c = laws.inner-right _ _ _ c.in_ok-found.ensures (ap Ok c.in-Some.is) c.in_ok-check_inner.ensures refl
