-- `builder::Builder::finish` meets its contract: what it answers inside, as the record that callers see. Assumes nothing.
use Prim.Native.Nat.{ℕ}
use mathlib.Core.Path.{ap, ◌∙◌}
use Rattle.builder.specs.declared.Builder.{Builder}
use Rattle.builder.specs.declared.Finished.{Finished}
use Rattle.builder.proofs.Builder.finish.Goals as goal

abbrev told : ℕ → Builder → Finished
told n r = record { number = n; len = 0; builder = r }

pub returns-in-Ok : goal.returns-in-Ok
returns-in-Ok c = record { value = c.in-Ok.ensures.value; out_after = c.write.ensures.out_after }

pub returns-in-Err : goal.returns-in-Err
returns-in-Err c = record { value = ap (λ (n : ℕ). told n c.args.self) c.from.ensures ∙ c.in-Err.ensures.value; out_after = c.write.ensures.out_after }
