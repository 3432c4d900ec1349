-- `compare_file` meets its contract: no file differs. Assumes nothing.
use mathlib.Core.Path.{ap, ◌∙◌}
use Rattle.night_by.specs.Night.{differing}
use Rattle.night_by.proofs.Verdicts as laws
use Rattle.night_by.proofs.compare_file.Goals as goal

pub returns : goal.returns
returns c =
    c.say_verdict.ensures ∙ ap differing c.file_verdict-verdict.ensures ∙ laws.file-same _
