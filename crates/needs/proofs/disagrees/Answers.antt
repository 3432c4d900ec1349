-- `needs::disagrees` meets its contract: each return by the law of the tests that led there. Assumes nothing.
use Rattle.needs.proofs.Wrong as wrong
use Rattle.needs.proofs.disagrees.Goals as goal

pub returns-then-is_wrong : goal.returns-then-is_wrong
returns-then-is_wrong c = let a = c.args in wrong.disagree-record a.kind a.e a.c a.room c.is_wrong.ensures c.if-is_wrong.true

pub is_short-requires : goal.is_short-requires
is_short-requires c = let a = c.args in wrong.past-not a.kind a.e a.c c.is_wrong.ensures c.if-is_wrong.false

pub returns : goal.returns
returns c =
    let a = c.args in
    wrong.disagree-areas a.kind a.e a.c a.room c.is_wrong.ensures c.if-is_wrong.false c.is_short.ensures
