-- `compare` meets its contract: each return by the law of the files' numbers that led there. Assumes nothing.
use mathlib.Core.Path.{sym, ap, ◌∙◌}
use Rattle.limits.specs.Refusals.{number_in}
use Rattle.limits.proofs.Refused.{refusal-some}
use Rattle.compare_by.proofs.Files as laws
use Rattle.compare_by.proofs.compare.Goals as goal

pub returns-in-Err : goal.returns-in-Err
returns-in-Err c =
    let a = c.args in
    let all = laws.first-refused a.first.now a.second.now a.firsts.now a.lasts.now
    (sym (ap number_in c.in-Err.is) ∙ c.tested.ensures) (refusal-some c.in-Err.refusal) c.none.ensures in
    record { value = all.0; firsts_after = all.1.0; lasts_after = all.1.1 }

pub returns-in-Err-tested : goal.returns-in-Err-tested
returns-in-Err-tested c =
    let a = c.args in
    let all = laws.second-refused
    a.first.now
    a.second.now
    a.firsts.now
    a.lasts.now
    (sym c.tested.ensures ∙ ap number_in c.in_default.is)
    (sym (ap number_in c.in-Err-tested.is) ∙ c.tested-2.ensures)
    (refusal-some c.in-Err-tested.refusal)
    c.none-in-Err-tested.ensures in
    record { value = all.0; firsts_after = all.1.0; lasts_after = all.1.1 }

pub compare_blocks-requires : goal.compare_blocks-requires
compare_blocks-requires c =
    let a = c.args in (
      laws.has-descriptor a.first.now (sym c.tested.ensures ∙ ap number_in c.in_default.is),
      laws.has-descriptor a.second.now (sym c.tested-2.ensures ∙ ap number_in c.in_default-tested.is),
    )

pub returns : goal.returns
returns c =
    let a = c.args in
    let all = laws.files-compared
    a.first.now
    a.second.now
    a.firsts.now
    a.lasts.now
    (sym c.tested.ensures ∙ ap number_in c.in_default.is)
    (sym c.tested-2.ensures ∙ ap number_in c.in_default-tested.is)
    (c.compare_blocks.ensures.value, (c.compare_blocks.ensures.firsts_after, c.compare_blocks.ensures.lasts_after)) in
    record { value = all.0; firsts_after = all.1.0; lasts_after = all.1.1 }
