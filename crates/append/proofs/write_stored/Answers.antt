-- `append::write_stored` meets its contract: of a row that is not stored nothing is written, of one that is its item's slots. Assumes nothing.
use mathlib.Core.Path.{◌≡◌, refl, ap}
use native.Mathlib.Omega.{arith}
use lib.IntN.{ℤ}
use mir.Syntax.{w64}
use mir.Val.{of_z, to_z}
use mir.Facts.{to_z-of_z}
use Rattle.plain.specs.Rows.{Row, row_of}
use Rattle.append.specs.Asking.{Stores}
use Rattle.append.proofs.Items as items
use Rattle.append.proofs.write_stored.Goals as goal

pub returns-then-not-stored : goal.returns-then-not-stored
returns-then-not-stored c =
    let row : Row = let a = c.args in row_of a.kind a.present a.value a.item.now in
    let a = c.args in
    let all = items.kept a.kind a.nullable a.i a.at (row) a.items.now a.ends.now a.flags.now a.lens.now refl a.stored c.if-not-stored.true in
    record { after = all.0; ends_after = all.1.0; flags_after = all.1.1.0; lens_after = all.1.1.1 }

pub overflow_add-at : goal.overflow_add-at
overflow_add-at c =
    let row : Row = let a = c.args in row_of a.kind a.present a.value a.item.now in
    let stores : let a = c.args in
    Stores a.kind a.nullable a.i a.at (row) a.len a.items.now a.ends.now a.flags.now a.lens.now = c.requires c.if-not-stored.false in
    let z = (stores).small in record { fits = omega arith }

pub write_item-requires : goal.write_item-requires
write_item-requires c =
    let row : Row = let a = c.args in row_of a.kind a.present a.value a.item.now in
    let passed : let a = c.args in row_of a.kind a.present (to_z w64 (of_z w64 a.value)) a.item.now ≡ row = let a = c.args in
    ap (λ (v : ℤ). row_of a.kind a.present v a.item.now) (to_z-of_z c.ranges.value) in
    let stores : let a = c.args in
    Stores a.kind a.nullable a.i a.at (row) a.len a.items.now a.ends.now a.flags.now a.lens.now = c.requires c.if-not-stored.false in
    let a = c.args in
    items.write-asks a.kind a.nullable a.i a.at (row) a.items.now a.ends.now a.flags.now a.lens.now (passed) (stores)

pub returns : goal.returns
returns c =
    let row : Row = let a = c.args in row_of a.kind a.present a.value a.item.now in
    let passed : let a = c.args in row_of a.kind a.present (to_z w64 (of_z w64 a.value)) a.item.now ≡ row = let a = c.args in
    ap (λ (v : ℤ). row_of a.kind a.present v a.item.now) (to_z-of_z c.ranges.value) in
    let stores : let a = c.args in
    Stores a.kind a.nullable a.i a.at (row) a.len a.items.now a.ends.now a.flags.now a.lens.now = c.requires c.if-not-stored.false in
    let a = c.args in
    let all = items.put a.kind a.nullable a.i a.at (row) a.items.now a.ends.now a.flags.now a.lens.now (passed)
    a.stored c.if-not-stored.false (stores).long (c.write_item.ensures.after, (c.write_item.ensures.ends_after, (c.write_item.ensures.flags_after, c.write_item.ensures.lens_after))) in
    record { after = all.0; ends_after = all.1.0; flags_after = all.1.1.0; lens_after = all.1.1.1 }
