-- `capi::creation_of` meets its contract: each case of creation's answer by its law. Assumes nothing.
use mathlib.Core.Path.{sym, ap, ◌∙◌}
use Rattle.std.specs.Prelude.{Err}
use Rattle.limits.specs.Refusals.{by_number}
use Rattle.capi.proofs.Answering as laws
use Rattle.capi.proofs.building.creation_of.Goals as goal

pub returns-in-Ok : goal.returns-in-Ok
returns-in-Ok c = laws.makes (ap by_number c.in-Ok.is)

pub returns-in-Err : goal.returns-in-Err
returns-in-Err c = laws.makes_none (ap by_number c.in-Err.is ∙ ap Err (sym c.from.ensures)) c.no_builder.ensures
