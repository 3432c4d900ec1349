-- `compare_rows` meets its contract: all rows, or those that are due of more. Assumes nothing.
use native.Mathlib.Omega.{arith}
use mathlib.Core.Path.{ap, ◌∙◌}
use Rattle.std.specs.Prelude.{Ok}
use Rattle.night_rows.proofs.Columns as laws
use Rattle.night_rows.proofs.compare_rows.Goals as goal

pub returns-then-d : goal.returns-then-d
returns-then-d c = c.compare_from.ensures ∙ ap Ok (laws.all-due _ (omega arith))
