-- `rle::advance` meets its contract: all rows from a run's start on, or those of a run that is begun and then those from the next one's start on. Assumes
-- nothing.
use native.Mathlib.Omega.{arith}
use mathlib.Core.Path.{sym, ◌∙◌}
use Rattle.rle.proofs.RestOfRun.{found}
use Rattle.rle.proofs.Advancing.{from-its-start, going_start, going_end, going-wrong, going-in, going_on}
use Rattle.rle.proofs.advance.Goals as goal

pub returns-then-n-eq0 : goal.returns-then-n-eq0
returns-then-n-eq0 c = going_end (going_start _ _ _ _) (omega arith)

pub returns-then-from-eq0 : goal.returns-then-from-eq0
returns-then-from-eq0 c = c.pass_on.ensures ∙ from-its-start _ _ _ _ c.if-from-eq0.true

pub returns-in_err-rest : goal.returns-in_err-rest
returns-in_err-rest c = c.from_residual.ensures ∙ going-wrong (going_start _ _ _ _) (omega arith) c.rest_of.ensures c.in_err-rest.was

pub overflow_add-result : goal.overflow_add-result
overflow_add-result c =
    let f = found _ _ _ c.rest_of.ensures c.in_ok-rest.was in
    omega arith

pub returns-then-n-rest : goal.returns-then-n-rest
returns-then-n-rest c =
    going-in (going_start _ _ _ _) (omega arith) c.rest_of.ensures c.in_ok-rest.was (omega arith)

pub overflow_add-from : goal.overflow_add-from
overflow_add-from c =
    let f = found _ _ _ c.rest_of.ensures c.in_ok-rest.was in
    omega arith

pub overflow_add-from-2 : goal.overflow_add-from-2
overflow_add-from-2 c =
    let f = found _ _ _ c.rest_of.ensures c.in_ok-rest.was in
    omega arith

pub returns : goal.returns
returns c =
    c.pass_on-2.ensures ∙ sym (going_on (going_start _ _ _ _) (omega arith) c.rest_of.ensures c.in_ok-rest.was (omega arith)).whole
