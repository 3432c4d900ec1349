-- `fill::write_rows` meets its contract: the areas that the kind doesn't use stay. Assumes nothing.
use Rattle.fill.proofs.FilledAreas.{is-fixed}
use Rattle.fill.proofs.UnusedAreas.{fixed-all, texts-all, as_bytes}
use borrow.Enum.Refused.{opened}
use Rattle.fill.proofs.write_rows.Goals as goal

-- src/lib.rt:55:17
pub returns-then-source : goal.returns-then-source
returns-then-source c =
    let a = c.args in
    let all = fixed-all a.parts a.from a.block.now a.n a.values.now a.flags.now a.ends.now a.bytes.now
    (is-fixed _ _ c.in-Fixed.is) (c.give_values.ensures.value, (c.give_values.ensures.values_after, c.give_values.ensures.flags_after)) in
    record { value = all.0; values_after = all.1.0; flags_after = all.1.1.0; ends_after = all.1.1.1.0; bytes_after = all.1.1.1.1 }

-- src/lib.rt:59:39
pub give_texts-requires : goal.give_texts-requires
give_texts-requires c =
    (c.requires, as_bytes _ (opened c.in-Char.in-Char-own.keys2))

-- src/lib.rt:33:1
pub returns-else-source : goal.returns-else-source
returns-else-source c =
    let a = c.args in
    let all = fixed-all a.parts a.from a.block.now a.n a.values.now a.flags.now a.ends.now a.bytes.now
    (is-fixed _ _ c.in-Fixed.is) (c.give_items.ensures.value, (c.give_items.ensures.values_after, c.give_items.ensures.flags_after)) in
    record { value = all.0; values_after = all.1.0; flags_after = all.1.1.0; ends_after = all.1.1.1.0; bytes_after = all.1.1.1.1 }

-- src/lib.rt:33:1
pub returns-in-Char : goal.returns-in-Char
returns-in-Char c =
    let a = c.args in
    let all = texts-all a.parts a.from a.block.now a.n a.values.now a.flags.now a.ends.now a.bytes.now
    (as_bytes _ (opened c.in-Char.in-Char-own.keys2)) (c.give_texts.ensures.value, (c.give_texts.ensures.flags_after, (c.give_texts.ensures.ends_after, c.give_texts.ensures.bytes_after))) in
    record { value = all.0; values_after = all.1.0; flags_after = all.1.1.0; ends_after = all.1.1.1.0; bytes_after = all.1.1.1.1 }
