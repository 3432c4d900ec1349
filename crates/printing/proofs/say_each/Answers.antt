-- `say_each` meets its contract: the rows that are left decide what comes back of all of them. Assumes nothing.
use native.Mathlib.Omega.{arith}
use Rattle.printing.proofs.RowsListed as laws
use Rattle.printing.proofs.say_each.Goals as goal

pub loop-i-init : goal.loop-i-init
loop-i-init c = laws.listing_start _ _ _ _ _

pub returns-then-answer-ne0 : goal.returns-then-answer-ne0
returns-then-answer-ne0 c =
    laws.listing-refused c.loop-i.invariant (omega arith) c.say_next-answer.ensures c.if-answer-ne0.true

pub loop-i-preserved : goal.loop-i-preserved
loop-i-preserved c =
    laws.listing_step c.loop-i.invariant (omega arith) c.say_next-answer.ensures c.if-answer-ne0.false
    c.say_next-answer.auto.bytes c.say_next-answer.auto.text

pub returns : goal.returns
returns c = laws.listing-end c.loop-i.invariant (omega arith)
