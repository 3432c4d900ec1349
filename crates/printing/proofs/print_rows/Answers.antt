-- `print_rows` meets its contract: what comes back is what asking for the rows left, or the first refused of them, came to. Assumes nothing.
use mathlib.Core.Path.{◌≡◌, sym, ap, ◌∙◌}
use Rattle.block.specs.declared.Left.{Left}
use Rattle.printing.specs.Printing.{listed}
use Rattle.printing.proofs.RowsListed as laws
use Rattle.printing.proofs.print_rows.Goals as goal

pub returns-then-left-ne0 : goal.returns-then-left-ne0
returns-then-left-ne0 c =
    laws.not_listed _ _ c.remaining-left.ensures c.if-left-ne0.true

pub say_rows-number-requires : goal.say_rows-number-requires
say_rows-number-requires c =
    ap (λ (l : Left). l.number) (sym c.remaining-left.ensures) ∙ c.if-left-ne0.false

pub returns-then-number-ne0 : goal.returns-then-number-ne0
returns-then-number-ne0 c =
    let told : let a = c.args in c.say_rows-number.result ≡ listed a.reader a.block.now = let a = c.args in
    laws.rows-listed a.reader a.block.now c.remaining-left.ensures c.if-left-ne0.false c.least.ensures c.say_rows-number.ensures in
    told

pub returns : goal.returns
returns c =
    let told : let a = c.args in c.say_rows-number.result ≡ listed a.reader a.block.now = let a = c.args in
    laws.rows-listed a.reader a.block.now c.remaining-left.ensures c.if-left-ne0.false c.least.ensures c.say_rows-number.ensures in
    sym c.if-number-ne0.false ∙ told
