-- `salvage` meets its contract: a block that was taken apart, and one that breaks a rule. Assumes nothing.
use native.Mathlib.Omega.{arith}
use mathlib.Core.Path.{ap, sym, ◌∙◌}
use Rattle.limits.specs.Refusals.{by_number}
use Rattle.damaged.proofs.TakenBlocks.{taken-whole, taken_refused}
use Rattle.salvaging.proofs.Outcomes.{rule-broken}
use Rattle.salvaging.proofs.salvage.Goals as goal

pub salvage_whole-requires : goal.salvage_whole-requires
salvage_whole-requires c =
    taken-whole _ _ c.take_damaged.ensures (ap by_number c.in-Ok.is)

pub returns-in-Err : goal.returns-in-Err
returns-in-Err c =
    let t = taken_refused _ _ c.take_damaged.ensures (ap by_number c.in-Err.is) in
    let all = rule-broken _ _ _ _ _ (t.0 ∙ sym c.from.ensures) (omega (arith, t.1, c.from.ensures)) c.refused.ensures in
    record { value = all.0; firsts_after = all.1.0; lasts_after = all.1.1.0; out_after = all.1.1.1 }
