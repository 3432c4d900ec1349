-- `is_text_by` meets its contract: a text ends in the state 0. Assumes nothing.
use mathlib.Core.Path.{ap, ◌∙◌}
use Rattle.utf8.specs.Utf8.{is_text, whole}
use Rattle.utf8.proofs.Moves.{ends-right}
use Rattle.utf8.proofs.is_text_by.Goals as goal

pub returns : goal.returns
unfolding is_text
returns c = ends-right c.walk.result c.walk.ensures.0 ∙ ap whole c.walk.ensures.1
