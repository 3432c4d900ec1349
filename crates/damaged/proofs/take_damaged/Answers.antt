-- `take_damaged` meets its contract: each return by the law of the tests that led there. Assumes nothing.
use native.Mathlib.Omega.{arith}
use mathlib.Core.Path.{refl}
use Rattle.std.proofs.lemmas.Result.{err_from_is_err_and}
use Rattle.damaged.proofs.Taking as laws
use borrow.Enum.Refused.{opened}
use Rattle.damaged.proofs.take_damaged.Goals as goal

pub returns-then-d-ne0 : goal.returns-then-d-ne0
returns-then-d-ne0 c = laws.bit-set _ _ c.if-d-ne0.true

pub returns-in_default : goal.returns-in_default
returns-in_default c =
    laws.unknown _ _ c.if-d-ne0.false c.column_of.ensures c.in_default.is

pub returns-in_default-encoding : goal.returns-in_default-encoding
returns-in_default-encoding c =
    laws.other-encoding _ _ c.if-d-ne0.false c.column_of.ensures c.in-Some.is (opened c.in_default-encoding.in_default-encoding-own.keys2)

pub returns-then-block-gt-MOST_BYTES : goal.returns-then-block-gt-MOST_BYTES
returns-then-block-gt-MOST_BYTES c =
    laws.long _ _ c.if-d-ne0.false c.column_of.ensures c.in-Some.is c.in-Dictionary.is (omega arith)

pub returns-then-d-gt-MOST_ROWS : goal.returns-then-d-gt-MOST_ROWS
returns-then-d-gt-MOST_ROWS c =
    laws.many _ _ c.if-d-ne0.false c.column_of.ensures c.in-Some.is c.in-Dictionary.is (omega arith) (omega arith)

pub take_apart-requires : goal.take_apart-requires
take_apart-requires c =
    laws.right _ _ c.if-d-ne0.false c.column_of.ensures c.in-Some.is c.in-Dictionary.is (omega arith) (omega arith)
    c.in_ok-head.ensures refl

pub returns-in_err-head : goal.returns-in_err-head
returns-in_err-head c =
    let p = err_from_is_err_and c.from_residual.result c.from_residual.ensures.1 in
    rw (p.1, p.2)
    (laws.broken _ _ c.if-d-ne0.false c.column_of.ensures c.in-Some.is c.in-Dictionary.is (omega arith) (omega arith) c.in_err-head.ensures refl)

pub returns : goal.returns
returns c =
    laws.whole _ _ c.if-d-ne0.false c.column_of.ensures c.in-Some.is c.in-Dictionary.is (omega arith) (omega arith)
    c.in_ok-head.ensures refl c.take_apart.ensures
