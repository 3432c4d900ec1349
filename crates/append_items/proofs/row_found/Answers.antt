-- `append_items::row_found` meets its contract: one row has its own way, and any other number goes together. Assumes nothing.
use mathlib.Core.Path.{◌≡◌, refl, ap}
use lib.IntN.{ℤ}
use mir.Syntax.{w64}
use mir.Val.{of_z, to_z}
use mir.Facts.{to_z-of_z}
use Rattle.plain.specs.Rows.{Row, row_of}
use Rattle.needs.specs.Tests.{rows_by}
use Rattle.append.specs.Appending.{Lent, lent}
use Rattle.copies_laws.proofs.Answers.{single}
use Rattle.append_times.proofs.Ways as ways
use Rattle.append_items.proofs.row_found.Goals as goal

-- ---- the needs
pub several-requires : goal.several-requires
several-requires c =
    let row : Row = let a = c.args in row_of a.kind a.present a.value a.item.now in
    let passed : let a = c.args in row_of a.kind a.present (to_z w64 (of_z w64 a.value)) a.item.now ≡ row = let a = c.args in
    ap (λ (v : ℤ). row_of a.kind a.present v a.item.now) (to_z-of_z c.ranges.value) in
    let a = c.args in
    (ways.found_passed c.rows_by.ensures (passed) refl c.requires.0, ways.long-passed a.kind (passed) c.requires.1)

pub returns-then-n-ne1 : goal.returns-then-n-ne1
returns-then-n-ne1 c =
    let areas : Lent = let a = c.args in lent a.items.now a.ends.now a.flags.now a.counts.now a.keys.now a.lens.now in
    let row : Row = let a = c.args in row_of a.kind a.present a.value a.item.now in
    let passed : let a = c.args in row_of a.kind a.present (to_z w64 (of_z w64 a.value)) a.item.now ≡ row = let a = c.args in
    ap (λ (v : ℤ). row_of a.kind a.present v a.item.now) (to_z-of_z c.ranges.value) in
    let a = c.args in
    ways.times-passed a.kind c.rows_by.ensures a.c (areas) a.n (passed) c.several.ensures

pub one_row-requires : goal.one_row-requires
one_row-requires c =
    let row : Row = let a = c.args in row_of a.kind a.present a.value a.item.now in
    let passed : let a = c.args in row_of a.kind a.present (to_z w64 (of_z w64 a.value)) a.item.now ≡ row = let a = c.args in
    ap (λ (v : ℤ). row_of a.kind a.present v a.item.now) (to_z-of_z c.ranges.value) in
    let a = c.args in
    (ways.found_passed refl (passed) refl c.requires.0, ways.long-passed a.kind (passed) c.requires.1)

pub returns : goal.returns
returns c =
    let areas : Lent = let a = c.args in lent a.items.now a.ends.now a.flags.now a.counts.now a.keys.now a.lens.now in
    let row : Row = let a = c.args in row_of a.kind a.present a.value a.item.now in
    let passed : let a = c.args in row_of a.kind a.present (to_z w64 (of_z w64 a.value)) a.item.now ≡ row = let a = c.args in
    ap (λ (v : ℤ). row_of a.kind a.present v a.item.now) (to_z-of_z c.ranges.value) in
    let a = c.args in
    single a.kind (rows_by a.nullable) a.c (areas) (row) c.if-n-ne1.false (ways.added-passed a.kind (rows_by a.nullable) a.c (areas) (passed) c.one_row.ensures)
