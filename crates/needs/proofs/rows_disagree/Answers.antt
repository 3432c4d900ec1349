-- `needs::rows_disagree` meets its contract: each return by the law of the tests that led there. Assumes nothing.
use mathlib.Core.Path.{refl}
use Rattle.needs.specs.Tests.{rows_by}
use Rattle.needs.proofs.Limits.{rows-within}
use Rattle.needs.proofs.Wrong as wrong
use Rattle.needs.proofs.rows_disagree.Goals as goal

pub returns-then-rows_wrong : goal.returns-then-rows_wrong
returns-then-rows_wrong c = let a = c.args in wrong.disagree-record a.kind (rows_by a.nullable) a.c a.room c.rows_wrong.ensures c.if-rows_wrong.true

pub rows_short-requires : goal.rows_short-requires
rows_short-requires c =
    let a = c.args in
    rows-within a.c (wrong.past-not a.kind (rows_by a.nullable) a.c c.rows_wrong.ensures c.if-rows_wrong.false) a.nullable refl

pub returns : goal.returns
returns c =
    let a = c.args in
    wrong.disagree-areas a.kind (rows_by a.nullable) a.c a.room c.rows_wrong.ensures c.if-rows_wrong.false c.rows_short.ensures
