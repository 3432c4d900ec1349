-- `item_rows::write_chars` meets its contract: the rows' texts are those of the items. Assumes nothing.
use mathlib.Core.Path.{◌∙◌}
use native.Mathlib.Omega.{arith}
use Rattle.anatomy.specs.Parts.{part_in}
use Rattle.part_rows.proofs.FlagRows.{alone-few}
use Rattle.item_rows.proofs.LoneChars.{chars-there, chars-fit, chars-sum, chars-ends, chars-joined}
use Rattle.item_rows.proofs.write_chars.Goals as goal

-- src/lib.rt:67:5
pub put-requires : goal.put-requires
unfolding part_in
put-requires c =
    let a = c.args in (
      alone-few a.parts a.from a.block.now a.n c.requires.0 c.requires.1.coded,
      chars-there a.parts a.from a.block.now a.n c.requires.0 a.w c.requires.1,
      c.requires.2,
      chars-fit a.parts a.from a.block.now a.n c.requires.0 a.w c.requires.1 c.requires.3,
    )

-- src/lib.rt:50:1
pub returns : goal.returns
unfolding part_in
returns c =
    let a = c.args in
    let few = alone-few a.parts a.from a.block.now a.n c.requires.0 c.requires.1.coded in
    record {
      value = (c.put.ensures.value.0 ∙ chars-sum a.parts a.from a.block.now a.n c.requires.0 a.w c.requires.1, omega (arith, c.put.ensures.value.1));
      ends_after =
          chars-ends a.parts a.from a.block.now a.n c.requires.0 a.w c.requires.1 a.ends.now c.put.ensures.ends_after;
      bytes_after =
          chars-joined a.parts a.from a.block.now a.n c.requires.0 a.w c.requires.1 a.bytes.now c.put.ensures.bytes_after;
    }
