-- `take_side` meets its contract: each return by the law of the tests that led there. Assumes nothing.
use Rattle.std.proofs.lemmas.Result.{err_from_is_err_and}
use Rattle.comparing.proofs.TakenSides as laws
use Rattle.comparing.proofs.sides.take_side.Goals as goal

pub returns-in_err-reader : goal.returns-in_err-reader
returns-in_err-reader c =
    let p = err_from_is_err_and c.from_residual.result c.from_residual.ensures.1 in
    rw (p.1, p.2) (laws.side-refused _ _ c.in_err-reader.ensures)

pub returns-in_default : goal.returns-in_default
returns-in_default c = laws.side-unknown _ _ c.in_ok-reader.ensures c.column_of.ensures c.in_default.is

pub take_apart-requires : goal.take_apart-requires
take_apart-requires c = laws.side_right _ _ c.in_ok-reader.ensures c.column_of.ensures c.in-Some.is

pub returns : goal.returns
returns c = laws.side-whole _ _ c.in_ok-reader.ensures c.column_of.ensures c.in-Some.is c.take_apart.ensures
