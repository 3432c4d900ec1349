-- `rle::take_piece` meets its contract: each return by its law; the sums fit, since a run that was found has a count of 32 bits. Assumes nothing.
use mathlib.Core.Path.{◌∙◌}
use native.Mathlib.Omega.{arith}
use Rattle.rle.proofs.RestOfRun.{found}
use Rattle.rle.proofs.Pieces as laws
use Rattle.rle.proofs.take_piece.Goals as goal

pub returns-then-not-coded : goal.returns-then-not-coded
returns-then-not-coded c = laws.gives-alone _ _ _ _ _ c.if-not-coded.true

pub returns-in_err-rest : goal.returns-in_err-rest
returns-in_err-rest c =
    c.from_residual.ensures ∙ laws.gives_none _ _ _ _ _ c.if-not-coded.false c.rest_of.ensures c.in_err-rest.was

pub overflow_add-result-then-left-rest : goal.overflow_add-result-then-left-rest
overflow_add-result-then-left-rest c =
    let f = found _ _ _ c.rest_of.ensures c.in_ok-rest.was in
    omega arith

pub returns-then-left-rest : goal.returns-then-left-rest
returns-then-left-rest c =
    laws.gives_part _ _ _ _ _ c.if-not-coded.false c.rest_of.ensures c.in_ok-rest.was (omega arith)

pub overflow_add-result-3 : goal.overflow_add-result-3
overflow_add-result-3 c =
    let f = found _ _ _ c.rest_of.ensures c.in_ok-rest.was in
    omega arith

pub returns : goal.returns
returns c =
    laws.gives-rest _ _ _ _ _ c.if-not-coded.false c.rest_of.ensures c.in_ok-rest.was (omega arith)
