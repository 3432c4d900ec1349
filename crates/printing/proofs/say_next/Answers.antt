-- `say_next` meets its contract: what comes back is the read's answer. Assumes nothing.
use lib.IntN.{pos}
use lib.ListN.{length}
use mathlib.Core.Path.{◌≡◌}
use Rattle.printing.specs.Printing.{next_row}
use Rattle.printing.proofs.RowsListed as laws
use Rattle.printing.proofs.say_next.Goals as goal

pub returns-then-answer-ne0 : goal.returns-then-answer-ne0
returns-then-answer-ne0 c =
    let answered : let a = c.args in c.read-answer.result ≡ next_row a.reader a.block.now (length a.bytes.now) = let a = c.args in
    laws.next_row_lem a.reader a.block.now (pos 0) 0 0 a.bytes.now c.read-answer.ensures.value in
    answered

pub returns : goal.returns
returns c =
    let answered : let a = c.args in c.read-answer.result ≡ next_row a.reader a.block.now (length a.bytes.now) = let a = c.args in
    laws.next_row_lem a.reader a.block.now (pos 0) 0 0 a.bytes.now c.read-answer.ensures.value in
    answered
