-- `builder::Builder::append` meets its contract: an append of the row once. Assumes nothing.
use Rattle.append.specs.Appending.{Lent, lent}
use Rattle.builder.proofs.Answers as laws
use Rattle.builder.proofs.Builder.append.Goals as goal

pub returns : goal.returns
returns c =
    let areas : Lent = let a = c.args in lent a.items.now a.ends.now a.flags.now a.counts.now a.keys.now a.lens.now in
    let a = c.args in
    let all = laws.said-once a.self (areas) a.present a.value a.item.now c.ranges.value (
      c.append_times.ensures.value,
      (
        c.append_times.ensures.after,
        (c.append_times.ensures.ends_after, (c.append_times.ensures.flags_after, (c.append_times.ensures.counts_after, (c.append_times.ensures.keys_after, c.append_times.ensures.lens_after)))),
      ),
    ) in
    record { value = all.0; after = all.1.0; ends_after = all.1.1.0; flags_after = all.1.1.1.0; counts_after = all.1.1.1.1.0; keys_after = all.1.1.1.1.1.0; lens_after = all.1.1.1.1.1.1 }
