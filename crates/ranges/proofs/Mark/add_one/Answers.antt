-- `ranges::Mark::add_one` meets its contract: a place that goes on as those before it by its law, any other as `add` has it. Assumes nothing.
use Rattle.ranges.proofs.Steps as laws
use Rattle.ranges.proofs.Mark.add_one.Goals as goal

pub returns-then-on-is_some : goal.returns-then-on-is_some
returns-then-on-is_some c =
    let a = c.args in
    let all = laws.goes-on-so a.self a.on a.firsts.now a.lasts.now (rw c.is_some.ensures at c.if-on-is_some.true) in
    record { value = all.0; firsts_after = all.1.0; lasts_after = all.1.1 }
