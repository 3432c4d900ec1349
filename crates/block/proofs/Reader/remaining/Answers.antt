-- `block::Reader::remaining` meets its contract: each return by the law of the tests that led there. Assumes nothing.
use Rattle.block.proofs.RecordTests.{place-within}
use Rattle.block.proofs.RemainingCases as laws
use Rattle.block.proofs.Reader.remaining.Goals as goal

pub returns-in_default : goal.returns-in_default
returns-in_default c = laws.remaining-unknown _ c.named-found.ensures c.in_default.is

pub returns-then-wrong : goal.returns-then-wrong
returns-then-wrong c =
    laws.remaining-wrong _ c.named-found.ensures c.in-Some.is c.wrong.ensures c.if-wrong.true

pub overflow_sub-result : goal.overflow_sub-result
overflow_sub-result c = place-within _ _ _ c.wrong.ensures c.if-wrong.false

pub returns : goal.returns
returns c =
    laws.remaining-rows _ c.named-found.ensures c.in-Some.is c.wrong.ensures c.if-wrong.false
