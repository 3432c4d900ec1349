-- `written_times::write_part` meets its contract: the rows that join, or one that begins a run, are that many rows more. Assumes nothing.
use Prim.Native.Nat.{◌+◌, ◌≤◌, ◌<◌}
use native.Mathlib.Omega.{arith}
use mathlib.Core.Path.{◌≡◌, sym, ap, ◌∙◌}
use mathlib.Core.Bool.{false, not}
use lib.IntN.{ℤ}
use mir.Syntax.{w64}
use mir.Val.{of_z, to_z}
use mir.Facts.{to_z-of_z}
use Rattle.limits.specs.Limits.{MOST_COUNT}
use Rattle.plain.specs.Rows.{Row, row_of}
use Rattle.append.specs.Appending.{Lent, lent, room_of}
use Rattle.copies.specs.Copies.{joins_again}
use Rattle.written_times.specs.Writing.{HoldsMore}
use Rattle.written_times.proofs.Parts as laws
use Rattle.written_times.proofs.write_part.Goals as goal

-- ---- the rows that join
pub overflow_sub-c : goal.overflow_sub-c
overflow_sub-c c =
    let a = c.args in
    let o = laws.joins-open a.e a.c c.joins_again.ensures c.if-joins_again.true in
    omega (arith, o.2)

pub join_rows-requires : goal.join_rows-requires
join_rows-requires c =
    let row : Row = let a = c.args in row_of a.kind a.present a.value a.item.now in
    let areas : Lent = let a = c.args in lent a.items.now a.ends.now a.flags.now a.counts.now a.keys.now a.lens.now in
    let sized : let a = c.args in
    (0 < c.least-rows.result) × (c.least-rows.result ≤ a.left) × (a.c.last + c.least-rows.result ≤ MOST_COUNT) = let o =
    laws.joins-open c.args.e c.args.c c.joins_again.ensures c.if-joins_again.true in
    (omega (arith, o.2, c.least-rows.ensures, c.requires.2), omega (arith, c.least-rows.ensures), omega (arith, o.2, c.least-rows.ensures)) in
    let a = c.args in
    laws.join-asks a.kind a.e (row) a.left a.c (areas) c.requires.0 c.joins_again.ensures c.if-joins_again.true c.least-rows.result (sized).2

pub returns-then-joins_again : goal.returns-then-joins_again
returns-then-joins_again c =
    let sized : let a = c.args in
    (0 < c.least-rows.result) × (c.least-rows.result ≤ a.left) × (a.c.last + c.least-rows.result ≤ MOST_COUNT) = let o =
    laws.joins-open c.args.e c.args.c c.joins_again.ensures c.if-joins_again.true in
    (omega (arith, o.2, c.least-rows.ensures, c.requires.2), omega (arith, c.least-rows.ensures), omega (arith, o.2, c.least-rows.ensures)) in
    let areas : Lent = let a = c.args in lent a.items.now a.ends.now a.flags.now a.counts.now a.keys.now a.lens.now in
    let a = c.args in
    let z = sized in
    record {
      rows_nonzero = (z.0, z.1);
      lens_after = laws.part-joined a.kind a.e a.present a.value a.item.now a.key a.c (areas) c.joins_again.ensures c.if-joins_again.true
          c.least-rows.result z.0 z.2 c.join_rows.ensures.value c.join_rows.ensures.counts_after;
    }

-- it is written as a row whose item is stored, but for an entry
pub write_row-requires : goal.write_row-requires
write_row-requires c =
    let row : Row = let a = c.args in row_of a.kind a.present a.value a.item.now in
    let passed : let a = c.args in row_of a.kind a.present (to_z w64 (of_z w64 a.value)) a.item.now ≡ row = let a = c.args in
    ap (λ (v : ℤ). row_of a.kind a.present v a.item.now) (to_z-of_z c.ranges.value) in
    let areas : Lent = let a = c.args in lent a.items.now a.ends.now a.flags.now a.counts.now a.keys.now a.lens.now in
    let alone : let a = c.args in joins_again a.e a.c ≡ false = sym c.joins_again.ensures ∙ c.if-joins_again.false in
    let one : HoldsMore c.args.kind c.args.e (row) 1 c.args.c (room_of (areas)) = let a = c.args in
    laws.fewer a.kind a.e (row) a.left a.c (room_of (areas)) c.requires.0 1 (omega (arith, c.requires.2)) in
    let a = c.args in (
      laws.row-passed a.kind a.e (passed) (not c.is_keyed.result) false a.c (room_of (areas))
          (laws.alone-holds a.kind a.e (row) a.c (room_of (areas)) (alone) (one) c.is_keyed.ensures),
      laws.length-passed a.kind a.e (passed) c.requires.1,
    )

pub begun-requires : goal.begun-requires
begun-requires c =
    let row : Row = let a = c.args in row_of a.kind a.present a.value a.item.now in
    let areas : Lent = let a = c.args in lent a.items.now a.ends.now a.flags.now a.counts.now a.keys.now a.lens.now in
    let alone : let a = c.args in joins_again a.e a.c ≡ false = sym c.joins_again.ensures ∙ c.if-joins_again.false in
    let one : HoldsMore c.args.kind c.args.e (row) 1 c.args.c (room_of (areas)) = let a = c.args in
    laws.fewer a.kind a.e (row) a.left a.c (room_of (areas)) c.requires.0 1 (omega (arith, c.requires.2)) in
    let a = c.args in
    let few = laws.few a.kind a.e (row) a.left a.c (room_of (areas)) c.requires.0 in
    let h = laws.alone-holds a.kind a.e (row) a.c (room_of (areas)) (alone) (one) c.is_keyed.ensures in
    (alone, few.past, few.bytes, few.counts, λ t. laws.item-short a.kind a.e (row) _ false a.c (areas) h c.requires.1 (ap not (c.is_keyed.ensures ∙ t)))

pub returns : goal.returns
returns c =
    let areas : Lent = let a = c.args in lent a.items.now a.ends.now a.flags.now a.counts.now a.keys.now a.lens.now in
    let alone : let a = c.args in joins_again a.e a.c ≡ false = sym c.joins_again.ensures ∙ c.if-joins_again.false in
    let row : Row = let a = c.args in row_of a.kind a.present a.value a.item.now in
    let passed : let a = c.args in row_of a.kind a.present (to_z w64 (of_z w64 a.value)) a.item.now ≡ row = let a = c.args in
    ap (λ (v : ℤ). row_of a.kind a.present v a.item.now) (to_z-of_z c.ranges.value) in
    let a = c.args in
    record {
      rows_nonzero = (omega arith, omega (arith, c.requires.2));
      lens_after = laws.part-begun a.kind a.e a.present a.value a.item.now a.key a.c (areas) (alone) c.requires.1 c.begun.ensures
          c.is_keyed.ensures
          (laws.laid-passed a.kind a.e (passed) a.c (not c.is_keyed.result) false (to_z-of_z c.ranges.key) (areas) c.write_row.ensures);
    }
