-- `item_rows::write_items` meets its contract: without marks each item is a value, and with them a null is blanked. Assumes nothing.
use native.Mathlib.Omega.{arith}
use lib.ListN.{length}
use Rattle.anatomy.specs.Parts.{part_in}
use Rattle.part_rows.proofs.Places.{may_write}
use Rattle.part_rows.proofs.FlagRows.{alone-few}
use Rattle.item_rows.proofs.ItemRows.{items-read, items-room, bare-runs, blanked-runs}
use Rattle.item_rows.proofs.write_items.Goals as goal

-- src/lib.rt:37:5
pub values-requires : goal.values-requires
unfolding part_in
values-requires c =
    let a = c.args in (
      alone-few a.parts a.from a.block.now a.n c.requires.0 c.requires.2,
      items-room a.parts a.from a.block.now a.n c.requires.0 c.requires.2 a.p c.requires.1,
      omega arith,
    )

-- src/lib.rt:38:5
pub write_flags-requires : goal.write_flags-requires
write_flags-requires c =
    let a = c.args in
    let read = items-read a.parts a.from a.block.now a.n c.requires.0 c.requires.2 a.p c.requires.1 in
    (c.requires.0, may_write read (length a.flags.now) c.requires.4)

-- src/lib.rt:42:9
pub returns-in-Bare : goal.returns-in-Bare
unfolding part_in
returns-in-Bare c =
    let a = c.args in
    record {
      values_after = bare-runs a.parts a.from a.block.now a.n c.requires.0 c.requires.2 a.p c.requires.1 c.in-Bare.is a.values.now _
          c.values.ensures;
      flags_after = c.write_flags.ensures;
    }

-- src/lib.rt:21:1
pub returns : goal.returns
unfolding part_in
returns c =
    let a = c.args in
    record {
      values_after = blanked-runs a.parts a.from a.block.now a.n c.requires.0 c.requires.2 a.p c.requires.1 a.values.now _ _ a.flags.now _
          c.requires.3 c.requires.4 c.values.ensures c.write_flags.ensures c.blank.ensures;
      flags_after = c.write_flags.ensures;
    }
