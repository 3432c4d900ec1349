-- `builder::Builder::estimate` meets its contract: what it answers inside, as the record that callers see. Assumes nothing.
use Prim.Native.Nat.{ℕ}
use mathlib.Core.Path.{ap, ◌∙◌}
use Rattle.builder.specs.Finishing.{estimated_as}
use Rattle.builder.proofs.Builder.estimate.Goals as goal

pub returns-in-Ok : goal.returns-in-Ok
returns-in-Ok c = c.in-Ok.ensures

pub returns-in-Err : goal.returns-in-Err
returns-in-Err c = ap (λ (n : ℕ). estimated_as n 0 c.args.self) c.from.ensures ∙ c.in-Err.ensures
