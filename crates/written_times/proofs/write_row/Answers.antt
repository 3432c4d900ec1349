-- `written_times::write_row` meets its contract: the slots of the item and of the run are there, and what is written is what one row more lays. Assumes
-- nothing.
use mathlib.Core.Path.{◌≡◌, refl, sym, ap, ◌∙◌}
use mathlib.Core.Bool.{true, false, cond, not, ◌&&◌}
use lib.IntN.{ℤ}
use lib.ListN.{set}
use mir.Syntax.{w64}
use mir.Val.{of_z, to_z}
use mir.Facts.{to_z-of_z}
use Rattle.plain.specs.Rows.{Row, row_of}
use Rattle.append.specs.Appending.{Lent, lent}
use Rattle.append.proofs.Passed.{stores-passed, put-passed}
use Rattle.copies.proofs.Numbers.{not-keyed}
use Rattle.written_times.proofs.Parts as laws
use Rattle.written_times.proofs.write_row.Goals as goal

-- ---- the needs
pub write_stored-requires : goal.write_stored-requires
write_stored-requires c =
    let row : Row = let a = c.args in row_of a.kind a.present a.value a.item.now in
    let passed : let a = c.args in row_of a.kind a.present (to_z w64 (of_z w64 a.value)) a.item.now ≡ row = let a = c.args in
    ap (λ (v : ℤ). row_of a.kind a.present v a.item.now) (to_z-of_z c.ranges.value) in
    let areas : Lent = let a = c.args in lent a.items.now a.ends.now a.flags.now a.counts.now a.keys.now a.lens.now in
    let a = c.args in
    λ n. stores-passed a.kind c.is_flagged.result c.stored.result a.c.bytes (passed)
    (laws.item-slots a.kind a.e (row) a.stored a.joins a.c (areas) c.requires.0 n c.stored.ensures c.is_flagged.ensures c.requires.1)

pub write_run-requires : goal.write_run-requires
write_run-requires c =
    let row : Row = let a = c.args in row_of a.kind a.present a.value a.item.now in
    let areas : Lent = let a = c.args in lent a.items.now a.ends.now a.flags.now a.counts.now a.keys.now a.lens.now in
    let a = c.args in
    laws.run-slots a.kind a.e (row) a.stored a.joins a.c (areas) c.requires.0 (sym c.is_coded.ensures ∙ c.if-is_coded.true) c.is_keyed.ensures

pub returns-then-is_coded : goal.returns-then-is_coded
returns-then-is_coded c =
    let row : Row = let a = c.args in row_of a.kind a.present a.value a.item.now in
    let areas : Lent = let a = c.args in lent a.items.now a.ends.now a.flags.now a.counts.now a.keys.now a.lens.now in
    let passed : let a = c.args in row_of a.kind a.present (to_z w64 (of_z w64 a.value)) a.item.now ≡ row = let a = c.args in
    ap (λ (v : ℤ). row_of a.kind a.present v a.item.now) (to_z-of_z c.ranges.value) in
    let a = c.args in
    laws.row_laid a.kind a.e (row) a.stored a.joins a.c (areas) c.stored.ensures c.is_flagged.ensures
    {b = true} (sym c.if-is_coded.true ∙ c.is_coded.ensures) c.is_keyed.ensures a.key
    (put-passed a.kind c.is_flagged.result c.stored.result a.c.bytes (passed) a.stored (areas)
    (c.write_stored.ensures.after, (c.write_stored.ensures.ends_after, (c.write_stored.ensures.flags_after, c.write_stored.ensures.lens_after))))
    c.write_run.ensures.counts_after
    (c.write_run.ensures.keys_after ∙ ap (λ (z : ℤ). cond (c.is_keyed.result && not a.joins) (set a.keys.now a.c.runs z) a.keys.now) (to_z-of_z c.ranges.key))

pub returns-else-is_coded : goal.returns-else-is_coded
returns-else-is_coded c =
    let row : Row = let a = c.args in row_of a.kind a.present a.value a.item.now in
    let areas : Lent = let a = c.args in lent a.items.now a.ends.now a.flags.now a.counts.now a.keys.now a.lens.now in
    let passed : let a = c.args in row_of a.kind a.present (to_z w64 (of_z w64 a.value)) a.item.now ≡ row = let a = c.args in
    ap (λ (v : ℤ). row_of a.kind a.present v a.item.now) (to_z-of_z c.ranges.value) in
    let a = c.args in
    let none = sym c.is_coded.ensures ∙ c.if-is_coded.false in
    laws.row_laid a.kind a.e (row) a.stored a.joins a.c (areas) c.stored.ensures c.is_flagged.ensures
    {b = false} (sym none) {d = false} (sym (not-keyed a.e none)) a.key
    (put-passed a.kind c.is_flagged.result c.stored.result a.c.bytes (passed) a.stored (areas)
    (c.write_stored.ensures.after, (c.write_stored.ensures.ends_after, (c.write_stored.ensures.flags_after, c.write_stored.ensures.lens_after))))
    refl refl
