-- `builder::Builder::append_times` meets its contract: that of the append over what is counted. Assumes nothing.
use Prim.Native.Nat.{ℕ}
use mathlib.Core.Path.{refl, ap, ◌∙◌}
use Rattle.limits.proofs.Refused.{refusal-some}
use Rattle.append.specs.Appending.{Lent, lent}
use Rattle.builder.proofs.Answers as laws
use Rattle.builder.specs.declared.Builder.{Builder}
use Rattle.builder.specs.declared.Appended.{Appended}
use Rattle.builder.proofs.Builder.append_times.Goals as goal

abbrev told : ℕ → Builder → Appended
told n r = record { number = n; builder = r }

pub returns-in_default : goal.returns-in_default
returns-in_default c =
    let areas : Lent = let a = c.args in lent a.items.now a.ends.now a.flags.now a.counts.now a.keys.now a.lens.now in
    let a = c.args in
    let all = laws.append-unknown a.self (areas) a.times a.present a.value a.item.now c.column_of.ensures c.in_default.is in
    record { value = all.0; after = all.1.0; ends_after = all.1.1.0; flags_after = all.1.1.1.0; counts_after = all.1.1.1.1.0; keys_after = all.1.1.1.1.1.0; lens_after = all.1.1.1.1.1.1 }

pub returns-in-Err : goal.returns-in-Err
returns-in-Err c =
    let areas : Lent = let a = c.args in lent a.items.now a.ends.now a.flags.now a.counts.now a.keys.now a.lens.now in
    let a = c.args in
    let all = laws.append-refused a.self (areas) a.times a.present a.value a.item.now c.column_of.ensures c.in-Some.is c.ranges.value
    c.in-Err.ensures (refusal-some _) in
    record {
      value = ap (λ (n : ℕ). told n a.self) c.from.ensures ∙ all.0;
      after = all.1.0;
      ends_after = all.1.1.0;
      flags_after = all.1.1.1.0;
      counts_after = all.1.1.1.1.0;
      keys_after = all.1.1.1.1.1.0;
      lens_after = all.1.1.1.1.1.1;
    }

pub returns-in-Ok : goal.returns-in-Ok
returns-in-Ok c =
    let areas : Lent = let a = c.args in lent a.items.now a.ends.now a.flags.now a.counts.now a.keys.now a.lens.now in
    let a = c.args in
    let all = laws.append-done a.self (areas) a.times a.present a.value a.item.now c.column_of.ensures c.in-Some.is c.ranges.value
    c.in-Ok.ensures refl c.counting.ensures in
    record { value = all.0; after = all.1.0; ends_after = all.1.1.0; flags_after = all.1.1.1.0; counts_after = all.1.1.1.1.0; keys_after = all.1.1.1.1.1.0; lens_after = all.1.1.1.1.1.1 }
