-- `written_times::write_more` meets its contract. The loop's invariant is `Going`: the rows that are left, behind what is written, make all n. The measure is their
-- number. Assumes nothing.
use native.Mathlib.Omega.{arith}
use mathlib.Core.Path.{◌≡◌, refl, ap}
use lib.IntN.{ℤ}
use mir.Syntax.{w64}
use mir.Val.{of_z, to_z}
use mir.Facts.{to_z-of_z}
use Rattle.plain.specs.Rows.{Row, row_of}
use Rattle.append.specs.Appending.{Lent, lent, room_of}
use Rattle.copies.specs.Copies.{stage}
use Rattle.written_times.proofs.Parts as laws
use Rattle.written_times.proofs.write_more.Goals as goal

-- ---- the needs
pub loop-left-init : goal.loop-left-init
loop-left-init c =
    let row : Row = let a = c.args in row_of a.kind a.present a.value a.item.now in
    let passed : let a = c.args in row_of a.kind a.present (to_z w64 (of_z w64 a.value)) a.item.now ≡ row = let a = c.args in
    ap (λ (v : ℤ). row_of a.kind a.present v a.item.now) (to_z-of_z c.ranges.value) in
    let areas : Lent = let a = c.args in lent a.items.now a.ends.now a.flags.now a.counts.now a.keys.now a.lens.now in
    let a = c.args in
    record { same = refl; holds = laws.holds-passed a.kind a.e (passed) a.more a.c (room_of (areas)) c.requires.0; long = refl }

pub write_part-part-requires : goal.write_part-part-requires
write_part-part-requires c =
    let row : Row = let a = c.args in row_of a.kind a.present a.value a.item.now in
    let passed : let a = c.args in row_of a.kind a.present (to_z w64 (of_z w64 a.value)) a.item.now ≡ row = let a = c.args in
    ap (λ (v : ℤ). row_of a.kind a.present v a.item.now) (to_z-of_z c.ranges.value) in
    (laws.part-asks c.loop-left.invariant, laws.length-passed c.args.kind c.args.e (passed) c.requires.1, c.loop-left-test.true)

pub overflow_sub-left : goal.overflow_sub-left
overflow_sub-left c =
    c.write_part-part.ensures.rows_nonzero.1

pub loop-left-smaller : goal.loop-left-smaller
loop-left-smaller c =
    omega (arith, c.write_part-part.ensures.rows_nonzero.0, c.write_part-part.ensures.rows_nonzero.1)

pub loop-left-preserved : goal.loop-left-preserved
loop-left-preserved c =
    let areas-now : Lent = let l = c.loop-left in lent l.items l.ends l.flags l.counts l.keys l.lens in
    let k = c.write_part-part.auto in
    laws.going_on c.loop-left.invariant c.write_part-part.result.rows c.write_part-part.ensures.rows_nonzero.1 c.write_part-part.ensures.lens_after
    (laws.same-room _ (areas-now) (k.items, k.ends, k.flags, k.counts, k.keys, k.lens))

pub returns : goal.returns
returns c =
    let row : Row = let a = c.args in row_of a.kind a.present a.value a.item.now in
    let passed : let a = c.args in row_of a.kind a.present (to_z w64 (of_z w64 a.value)) a.item.now ≡ row = let a = c.args in
    ap (λ (v : ℤ). row_of a.kind a.present v a.item.now) (to_z-of_z c.ranges.value) in
    let areas : Lent = let a = c.args in lent a.items.now a.ends.now a.flags.now a.counts.now a.keys.now a.lens.now in
    let a = c.args in
    laws.more-passed a.kind a.e (passed) (to_z-of_z c.ranges.key) a.more (stage a.c (areas))
    (laws.going_done c.loop-left.invariant (omega (arith, c.loop-left-test.false)))

pub shape_of-items : goal.shape_of-items
shape_of-items c =
    let areas-now : Lent = let l = c.loop-left in lent l.items l.ends l.flags l.counts l.keys l.lens in
    let areas : Lent = let a = c.args in lent a.items.now a.ends.now a.flags.now a.counts.now a.keys.now a.lens.now in
    let as_long : laws.SameLengths (areas-now) (areas) = laws.same-lengths (areas-now) (areas) c.loop-left.invariant.long in
    (as_long).0

pub shape_of-ends : goal.shape_of-ends
shape_of-ends c =
    let areas-now : Lent = let l = c.loop-left in lent l.items l.ends l.flags l.counts l.keys l.lens in
    let areas : Lent = let a = c.args in lent a.items.now a.ends.now a.flags.now a.counts.now a.keys.now a.lens.now in
    let as_long : laws.SameLengths (areas-now) (areas) = laws.same-lengths (areas-now) (areas) c.loop-left.invariant.long in
    (as_long).1

pub shape_of-flags : goal.shape_of-flags
shape_of-flags c =
    let areas-now : Lent = let l = c.loop-left in lent l.items l.ends l.flags l.counts l.keys l.lens in
    let areas : Lent = let a = c.args in lent a.items.now a.ends.now a.flags.now a.counts.now a.keys.now a.lens.now in
    let as_long : laws.SameLengths (areas-now) (areas) = laws.same-lengths (areas-now) (areas) c.loop-left.invariant.long in
    (as_long).2

pub shape_of-counts : goal.shape_of-counts
shape_of-counts c =
    let areas-now : Lent = let l = c.loop-left in lent l.items l.ends l.flags l.counts l.keys l.lens in
    let areas : Lent = let a = c.args in lent a.items.now a.ends.now a.flags.now a.counts.now a.keys.now a.lens.now in
    let as_long : laws.SameLengths (areas-now) (areas) = laws.same-lengths (areas-now) (areas) c.loop-left.invariant.long in
    (as_long).3

pub shape_of-keys : goal.shape_of-keys
shape_of-keys c =
    let areas-now : Lent = let l = c.loop-left in lent l.items l.ends l.flags l.counts l.keys l.lens in
    let areas : Lent = let a = c.args in lent a.items.now a.ends.now a.flags.now a.counts.now a.keys.now a.lens.now in
    let as_long : laws.SameLengths (areas-now) (areas) = laws.same-lengths (areas-now) (areas) c.loop-left.invariant.long in
    (as_long).4

pub shape_of-lens : goal.shape_of-lens
shape_of-lens c =
    let areas-now : Lent = let l = c.loop-left in lent l.items l.ends l.flags l.counts l.keys l.lens in
    let areas : Lent = let a = c.args in lent a.items.now a.ends.now a.flags.now a.counts.now a.keys.now a.lens.now in
    let as_long : laws.SameLengths (areas-now) (areas) = laws.same-lengths (areas-now) (areas) c.loop-left.invariant.long in
    (as_long).5
