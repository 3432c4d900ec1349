-- `capi::idz_create_with_key_target` meets its contract: creation's answer, as it crosses. Assumes nothing.
use mathlib.Core.Path.{ap, ◌∙◌}
use Rattle.capi.specs.Answers.{creation_of}
use Rattle.capi.proofs.building.idz_create_with_key_target.Goals as goal

pub returns : goal.returns
returns c = c.creation_of.ensures ∙ ap creation_of c.create_with_key_target.ensures
