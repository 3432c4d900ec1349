-- `needs::rows_wrong` meets its contract: each return by the law of the tests and arms that led there. Assumes nothing.
use mathlib.Core.Path.{sym, ◌∙◌}
use Rattle.needs.specs.Tests.{rows_by}
use Rattle.needs.proofs.Encodings as encodings
use Rattle.needs.proofs.Wrong as wrong
use Rattle.encode.proofs.Bools.{clash}
use native.Mathlib.Omega.{arith}
use Rattle.needs.proofs.rows_wrong.Goals as goal

pub returns-then-items_wrong : goal.returns-then-items_wrong
returns-then-items_wrong c =
    let a = c.args in
    wrong.wrong-items a.kind (rows_by a.nullable) a.c (encodings.rows-stored a.nullable a.c) c.items_wrong.ensures c.if-items_wrong.true

pub rows_past-requires : goal.rows_past-requires
rows_past-requires c = let h = (wrong.items-right _ _ _ c.items_wrong.ensures c.if-items_wrong.false).2 in omega (arith, h)

pub returns : goal.returns
returns c =
    let a = c.args in
    wrong.wrong-limits a.kind (rows_by a.nullable) a.c (encodings.rows-stored a.nullable a.c) c.items_wrong.ensures
    (λ t. clash (sym t ∙ encodings.rows-coded a.nullable)) c.if-items_wrong.false c.rows_past.ensures
