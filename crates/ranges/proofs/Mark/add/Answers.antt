-- `ranges::Mark::add` meets its contract: each return by the law of the tests that led there. Assumes nothing.
use native.Mathlib.Omega.{arith}
use Rattle.ranges.proofs.Steps as laws
use Rattle.ranges.proofs.Mark.add.Goals as goal

pub returns-then-n-eq0 : goal.returns-then-n-eq0
returns-then-n-eq0 c =
    let a = c.args in
    let all = laws.nothing-added a.self a.on a.n a.firsts.now a.lasts.now (omega arith) in
    record { value = all.0; firsts_after = all.1.0; lasts_after = all.1.1 }

pub returns-then-on : goal.returns-then-on
returns-then-on c =
    let a = c.args in
    let all = laws.marked-added a.self a.on a.n a.firsts.now a.lasts.now (omega arith) c.if-on.true c.opened.ensures in
    record { value = all.0; firsts_after = all.1.0; lasts_after = all.1.1 }

pub returns : goal.returns
returns c =
    let a = c.args in
    let all = laws.others-added a.self a.on a.n a.firsts.now a.lasts.now (omega arith) c.if-on.false (c.end-next.ensures.value, (c.end-next.ensures.firsts_after, c.end-next.ensures.lasts_after)) in
    record { value = all.0; firsts_after = all.1.0; lasts_after = all.1.1 }
