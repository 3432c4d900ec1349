-- `print_column` meets its contract: the number is opening's, since no row of a column that was opened is refused. Assumes nothing.
use mathlib.Core.Path.{ap, ◌∙◌}
use Rattle.sheet.specs.declared.Found.{Found}
use Rattle.column_by.proofs.Listed as laws
use Rattle.column_by.proofs.print_column.Goals as goal

pub returns-then-found-ne0 : goal.returns-then-found-ne0
returns-then-found-ne0 c = c.refuse.ensures ∙ ap (λ (x : Found). x.number) c.open-found.ensures

pub returns : goal.returns
returns c =
    laws.column-told c.args.file.now c.args.j c.open-found.ensures c.part.ensures c.requires c.if-found-ne0.false c.print_rows.ensures
