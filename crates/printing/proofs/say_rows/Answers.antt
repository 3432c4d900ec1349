-- `say_rows` meets its contract: the record names a kind, and the rows are told by the loop. Assumes nothing.
use mathlib.Core.Path.{sym, ap, ◌∙◌}
use Rattle.printing.specs.Printing.{rows_refused}
use Rattle.printing.proofs.RowsListed as laws
use Rattle.printing.proofs.say_rows.Goals as goal

pub returns-in_default : goal.returns-in_default
returns-in_default c =
    absurd (laws.kind-named _ c.requires (sym c.kind_of.ensures ∙ c.in_default.is))

pub returns : goal.returns
returns c =
    c.say_each.ensures ∙ ap (rows_refused _ _ _) (sym c.large_buffer-bytes.ensures)
