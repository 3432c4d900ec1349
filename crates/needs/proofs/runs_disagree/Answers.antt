-- `needs::runs_disagree` meets its contract: each return by the law of the tests that led there. Assumes nothing.
use mathlib.Core.Path.{refl}
use Rattle.needs.specs.Tests.{runs_by}
use Rattle.needs.proofs.Limits.{runs-within}
use Rattle.needs.proofs.Wrong as wrong
use Rattle.needs.proofs.runs_disagree.Goals as goal

pub returns-then-runs_wrong : goal.returns-then-runs_wrong
returns-then-runs_wrong c = let a = c.args in wrong.disagree-record a.kind (runs_by a.nullable) a.c a.room c.runs_wrong.ensures c.if-runs_wrong.true

pub runs_short-requires : goal.runs_short-requires
runs_short-requires c =
    let a = c.args in
    runs-within a.c (wrong.past-not a.kind (runs_by a.nullable) a.c c.runs_wrong.ensures c.if-runs_wrong.false) a.nullable refl

pub returns : goal.returns
returns c =
    let a = c.args in
    wrong.disagree-areas a.kind (runs_by a.nullable) a.c a.room c.runs_wrong.ensures c.if-runs_wrong.false c.runs_short.ensures
