-- `compare_from` meets its contract. Both engines give every row alike. Assumes nothing.
use mathlib.Core.Path.{sym, ◌∙◌}
use Rattle.encode.proofs.Bools.{clash}
use Rattle.night_rows.proofs.compare_from.Goals as goal

pub returns-then-not-row_same : goal.returns-then-not-row_same
returns-then-not-row_same c = clash (sym c.row_same.ensures ∙ c.if-not-row_same.true)
