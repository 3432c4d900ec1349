-- `compare_column` meets its contract: no column differs. Assumes nothing.
use mathlib.Core.Path.{ap, ◌∙◌}
use Rattle.night_by.specs.Night.{differing}
use Rattle.night_by.proofs.Verdicts as laws
use Rattle.night_by.proofs.compare_column.Goals as goal

pub returns : goal.returns
returns c =
    c.say_verdict.ensures ∙ ap differing c.column_verdict-verdict.ensures ∙ laws.column-same _ _
