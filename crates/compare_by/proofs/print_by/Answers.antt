-- `print_by` meets its contract: the number is the comparison's, and each range that it counts has its slots. Assumes nothing.
use native.Mathlib.Omega.{arith}
use Rattle.compare_by.proofs.Files as laws
use Rattle.compare_by.proofs.print_by.Goals as goal

pub returns-then-answer-ne0 : goal.returns-then-answer-ne0
returns-then-answer-ne0 c =
    let a = c.args in
    laws.number_is a.first.now a.second.now a.firsts.now a.lasts.now c.compare-answer.ensures.value

pub say_ranges-requires : goal.say_ranges-requires
say_ranges-requires c =
    let a = c.args in
    let there = laws.slots-there a.first.now a.second.now a.firsts.now a.lasts.now c.compare-answer.ensures.value (omega arith) in
    (omega (arith, there.0), omega (arith, there.1))

pub returns : goal.returns
returns c =
    let a = c.args in
    omega (arith, laws.number_is a.first.now a.second.now a.firsts.now a.lasts.now c.compare-answer.ensures.value)
