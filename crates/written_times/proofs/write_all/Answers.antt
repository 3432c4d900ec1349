-- `written_times::write_all` meets its contract: the first row is written as it was found, the others behind it. Assumes nothing.
use Prim.Native.Nat.{◌-◌}
use native.Mathlib.Omega.{arith}
use mathlib.Core.Path.{◌≡◌, ap, ◌∙◌}
use lib.IntN.{ℤ}
use mir.Syntax.{w64}
use mir.Val.{of_z, to_z}
use mir.Facts.{to_z-of_z}
use Rattle.plain.specs.Rows.{Row, row_of}
use Rattle.needs.proofs.Wrong.{right}
use Rattle.append.specs.Appending.{Lent, lent, room_of}
use Rattle.copies.specs.Copies.{stage}
use Rattle.written_times.proofs.Parts as laws
use Rattle.written_times.proofs.write_all.Goals as goal

-- ---- the needs
pub write_row-requires : goal.write_row-requires
write_row-requires c =
    let row : Row = let a = c.args in row_of a.kind a.present a.value a.item.now in
    let passed : let a = c.args in row_of a.kind a.present (to_z w64 (of_z w64 a.value)) a.item.now ≡ row = let a = c.args in
    ap (λ (v : ℤ). row_of a.kind a.present v a.item.now) (to_z-of_z c.ranges.value) in
    let areas : Lent = let a = c.args in lent a.items.now a.ends.now a.flags.now a.counts.now a.keys.now a.lens.now in
    let a = c.args in
    (laws.row-passed a.kind a.e (passed) a.stored a.joins a.c (room_of (areas)) c.requires.0.first, laws.length-passed a.kind a.e (passed) c.requires.1)

pub counted_in-first-requires : goal.counted_in-first-requires
counted_in-first-requires c =
    let row : Row = let a = c.args in row_of a.kind a.present a.value a.item.now in
    let areas : Lent = let a = c.args in lent a.items.now a.ends.now a.flags.now a.counts.now a.keys.now a.lens.now in
    let a = c.args in
    let h = c.requires.0 in
    let w = right a.kind a.e a.c h.right in (
      w.past,
      w.bytes,
      w.counts,
      laws.item-short a.kind a.e (row) a.stored a.joins a.c (areas) h.first c.requires.1,
      λ j. (h.first.joinable j).1,
      h.each,
    )

pub overflow_sub-n : goal.overflow_sub-n
overflow_sub-n c = omega (arith, c.requires.0.some)

pub write_more-requires : goal.write_more-requires
write_more-requires c =
    let row : Row = let a = c.args in row_of a.kind a.present a.value a.item.now in
    let passed : let a = c.args in row_of a.kind a.present (to_z w64 (of_z w64 a.value)) a.item.now ≡ row = let a = c.args in
    ap (λ (v : ℤ). row_of a.kind a.present v a.item.now) (to_z-of_z c.ranges.value) in
    let areas : Lent = let a = c.args in lent a.items.now a.ends.now a.flags.now a.counts.now a.keys.now a.lens.now in
    let a = c.args in
    let k = c.write_row.auto in (
      laws.holds-passed a.kind a.e (passed) (a.n - 1) c.counted_in-first.result _
          (laws.others-hold a.kind a.e a.present a.value a.item.now a.key a.c (areas) a.stored a.joins
          c.requires.0.others c.requires.1 c.counted_in-first.ensures
          (laws.same-room _ (areas) (k.items, k.ends, k.flags, k.counts, k.keys, k.lens))),
      laws.length-passed a.kind a.e (passed) c.requires.1,
    )

pub returns : goal.returns
returns c =
    let areas : Lent = let a = c.args in lent a.items.now a.ends.now a.flags.now a.counts.now a.keys.now a.lens.now in
    let row : Row = let a = c.args in row_of a.kind a.present a.value a.item.now in
    let passed : let a = c.args in row_of a.kind a.present (to_z w64 (of_z w64 a.value)) a.item.now ≡ row = let a = c.args in
    ap (λ (v : ℤ). row_of a.kind a.present v a.item.now) (to_z-of_z c.ranges.value) in
    let a = c.args in
    laws.all-written a.kind a.e a.present a.value a.item.now a.key a.c (areas) a.stored a.joins a.n c.requires.0.some c.requires.1
    c.counted_in-first.ensures
    (laws.laid-passed a.kind a.e (passed) a.c a.stored a.joins (to_z-of_z c.ranges.key) (areas) c.write_row.ensures)
    (laws.more-passed a.kind a.e (passed) (to_z-of_z c.ranges.key) (a.n - 1) (stage c.counted_in-first.result _) c.write_more.ensures)

pub shape_of-items : goal.shape_of-items
shape_of-items c = c.write_more.auto.items ∙ c.write_row.auto.items

pub shape_of-ends : goal.shape_of-ends
shape_of-ends c = c.write_more.auto.ends ∙ c.write_row.auto.ends

pub shape_of-flags : goal.shape_of-flags
shape_of-flags c = c.write_more.auto.flags ∙ c.write_row.auto.flags

pub shape_of-counts : goal.shape_of-counts
shape_of-counts c = c.write_more.auto.counts ∙ c.write_row.auto.counts

pub shape_of-keys : goal.shape_of-keys
shape_of-keys c = c.write_more.auto.keys ∙ c.write_row.auto.keys

pub shape_of-lens : goal.shape_of-lens
shape_of-lens c = c.write_more.auto.lens ∙ c.write_row.auto.lens
