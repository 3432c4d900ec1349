-- `builder::Builder::is_full` meets its contract: each return by the law of the tests and arms that led there. Assumes nothing.
use mathlib.Core.Path.{sym, ◌∙◌}
use Rattle.builder.proofs.Answers as laws
use Rattle.builder.proofs.Builder.is_full.Goals as goal

pub returns-in_default : goal.returns-in_default
returns-in_default c =
    let a = c.args in
    laws.asked-unknown _ c.column_of.ensures a.present a.len c.in_default.is

pub returns-then-is_wrong : goal.returns-then-is_wrong
returns-then-is_wrong c =
    let a = c.args in
    laws.asked-wrong _ c.column_of.ensures c.in-Some.is c.is_wrong.ensures a.present a.len c.if-is_wrong.true

pub is_full-requires : goal.is_full-requires
is_full-requires c = sym c.is_wrong.ensures ∙ c.if-is_wrong.false

pub returns : goal.returns
returns c =
    let a = c.args in
    laws.asked-right _ c.column_of.ensures c.in-Some.is c.is_wrong.ensures a.present a.len c.if-is_wrong.false
    c.is_full.ensures
