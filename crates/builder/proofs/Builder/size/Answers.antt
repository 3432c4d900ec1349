-- `builder::Builder::size` meets its contract: each return by the law of the tests and arms that led there. Assumes nothing.
use mathlib.Core.Path.{sym, ◌∙◌}
use Rattle.builder.proofs.Answers as laws
use Rattle.builder.proofs.Builder.size.Goals as goal

pub returns-in_default : goal.returns-in_default
returns-in_default c = laws.estimate-unknown _ c.column_of.ensures c.in_default.is

pub returns-then-is_wrong : goal.returns-then-is_wrong
returns-then-is_wrong c =
    laws.estimate-wrong _ c.column_of.ensures c.in-Some.is c.is_wrong.ensures c.if-is_wrong.true

pub size_of-requires : goal.size_of-requires
size_of-requires c = sym c.is_wrong.ensures ∙ c.if-is_wrong.false

pub returns : goal.returns
returns c =
    laws.estimate-right _ c.column_of.ensures c.in-Some.is c.is_wrong.ensures c.if-is_wrong.false c.size_of.ensures
