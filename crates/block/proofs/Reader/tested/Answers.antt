-- `block::Reader::tested` meets its contract: each return by the law of the tests that led there. Assumes nothing.
use native.Mathlib.Omega.{arith}
use Rattle.block.proofs.RecordTests.{place-within}
use Rattle.block.proofs.ReadTests as laws
use Rattle.block.proofs.Reader.tested.Goals as goal

pub returns-then-nothing_asked : goal.returns-then-nothing_asked
returns-then-nothing_asked c = laws.tests-nothing _ _ _ _ c.nothing_asked.ensures c.if-nothing_asked.true

pub returns-in_default : goal.returns-in_default
returns-in_default c =
    laws.tests-unknown _ _ _ _ c.nothing_asked.ensures c.if-nothing_asked.false c.named-found.ensures c.in_default.is

pub returns-then-len-self : goal.returns-then-len-self
returns-then-len-self c =
    laws.tests-other _ _ _ _ c.nothing_asked.ensures c.if-nothing_asked.false c.named-found.ensures c.in-Some.is c.if-len-self.true

pub returns-then-wrong : goal.returns-then-wrong
returns-then-wrong c =
    laws.tests-wrong _ _ _ _ c.nothing_asked.ensures c.if-nothing_asked.false c.named-found.ensures c.in-Some.is
    c.if-len-self.false c.wrong.ensures c.if-wrong.true

pub overflow_sub-self : goal.overflow_sub-self
overflow_sub-self c = place-within _ _ _ c.wrong.ensures c.if-wrong.false

pub returns-then-self-skip : goal.returns-then-self-skip
returns-then-self-skip c =
    laws.tests-far _ _ _ _ c.nothing_asked.ensures c.if-nothing_asked.false c.named-found.ensures c.in-Some.is
    c.if-len-self.false c.wrong.ensures c.if-wrong.false c.if-self-skip.true

pub returns : goal.returns
returns c =
    laws.tests-fine _ _ _ _ c.nothing_asked.ensures c.if-nothing_asked.false c.named-found.ensures c.in-Some.is
    c.if-len-self.false c.wrong.ensures c.if-wrong.false (omega arith)
