-- `builder::Builder::should_finish` meets its contract: what it answers inside, as the record that callers see. Assumes nothing.
use Prim.Native.Nat.{ℕ}
use mathlib.Core.Bool.{false}
use mathlib.Core.Path.{ap, ◌∙◌}
use Rattle.builder.specs.Finishing.{asked_as}
use Rattle.builder.proofs.Builder.should_finish.Goals as goal

pub returns-in-Ok : goal.returns-in-Ok
returns-in-Ok c = c.in-Ok.ensures

pub returns-in-Err : goal.returns-in-Err
returns-in-Err c = ap (λ (n : ℕ). asked_as n false c.args.self) c.from.ensures ∙ c.in-Err.ensures
