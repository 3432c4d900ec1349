-- `slots::write_item` meets its contract: each area is what its function says of the row. Assumes nothing.
use native.Mathlib.Omega.{arith}
use mathlib.Core.Bool.{cond}
use Rattle.plain.specs.Rows.{null, bytes}
use Rattle.slots.proofs.Areas.{len-found, flag-found, flag-kept}
use Rattle.plain.proofs.Each.{char-short}
use Rattle.slots.proofs.Items.{char-fits, row-asked, row_put}
use Rattle.slots.proofs.write_item.Goals as goal

pub put_item-requires : goal.put_item-requires
put_item-requires c =
    let a = c.args in
    row-asked a.kind a.present a.value a.item.now a.items.now a.at c.ranges.value c.requires.0 a.end c.requires.1 c.requires.2

pub put_end-requires : goal.put_end-requires
put_end-requires c = (c.requires.3, c.requires.4)

pub put_len-requires : goal.put_len-requires
put_len-requires c = λ w e.
    let a = c.args in
    let f = char-fits a.kind a.present a.value a.item.now w e c.requires.0 in
    let h = char-short w (cond a.present (bytes a.item.now) null) f in
    (c.requires.5 w e, omega arith)

pub put_flag-requires : goal.put_flag-requires
put_flag-requires c =
    c.requires.6 c.if-flagged.true

-- ---- what the areas hold: the item, its end, its flag and its length
pub returns-then-flagged : goal.returns-then-flagged
returns-then-flagged c =
    let a = c.args in
    record {
      after = row_put a.kind a.present a.value a.item.now a.items.now a.at c.ranges.value c.put_item.ensures;
      ends_after = c.put_end.ensures;
      flags_after =
          flag-found a.kind a.present a.value a.item.now a.i a.flags.now a.flagged c.if-flagged.true c.put_flag.ensures;
      lens_after =
          len-found a.kind a.present a.value a.item.now a.i a.lens.now c.given_len.result c.given_len.ensures c.put_len.ensures;
    }

pub returns-else-flagged : goal.returns-else-flagged
returns-else-flagged c =
    let a = c.args in
    record {
      after = row_put a.kind a.present a.value a.item.now a.items.now a.at c.ranges.value c.put_item.ensures;
      ends_after = c.put_end.ensures;
      flags_after =
          flag-kept a.kind a.present a.value a.item.now a.i a.flags.now a.flagged c.if-flagged.false;
      lens_after =
          len-found a.kind a.present a.value a.item.now a.i a.lens.now c.given_len.result c.given_len.ensures c.put_len.ensures;
    }
