-- `block::open` meets its contract: each return by the law of the tests that led there. Assumes nothing.
use native.Mathlib.Omega.{arith}
use Rattle.std.proofs.lemmas.Result.{err_from_is_err_and}
use Rattle.block.proofs.OpeningCases as laws
use Rattle.block.proofs.reading.open.Goals as goal

pub returns-in_default : goal.returns-in_default
returns-in_default c = laws.open_unknown _ _ _ _ _ c.column_of-found.ensures c.in_default.is

pub returns-then-len-gt-MOST_BYTES : goal.returns-then-len-gt-MOST_BYTES
returns-then-len-gt-MOST_BYTES c = laws.open-long _ _ _ _ _ c.column_of-found.ensures c.in-Some.is c.if-len-gt-MOST_BYTES.true

pub returns-then-most_rows-rows : goal.returns-then-most_rows-rows
returns-then-most_rows-rows c =
    laws.open-rows _ _ _ _ _ c.column_of-found.ensures c.in-Some.is (omega arith) c.most_rows.ensures c.if-most_rows-rows.true

pub returns-in_err-head : goal.returns-in_err-head
returns-in_err-head c =
    let p = err_from_is_err_and c.from_residual.result c.from_residual.ensures.1 in
    rw (p.1, p.2)
    (laws.open-refused _ _ _ _ _ c.column_of-found.ensures c.in-Some.is (omega arith) c.most_rows.ensures (omega arith) c.in_err-head.ensures)

pub returns : goal.returns
returns c =
    laws.open-sound _ _ _ _ _ c.column_of-found.ensures c.in-Some.is (omega arith) c.most_rows.ensures (omega arith)
    c.in_ok-head.ensures c.at_start.ensures
