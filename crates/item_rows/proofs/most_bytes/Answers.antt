-- `item_rows::most_bytes` meets its contract: the rows' texts are those of the items. Assumes nothing.
use Rattle.anatomy.specs.Parts.{part_in}
use Rattle.part_rows.proofs.FlagRows.{alone-few}
use Rattle.item_rows.proofs.LoneChars.{chars-there, chars-most}
use Rattle.item_rows.proofs.most_bytes.Goals as goal

-- src/lib.rt:46:5
pub most-requires : goal.most-requires
unfolding part_in
most-requires c =
    let a = c.args in (
      alone-few a.parts a.from a.block.now a.n c.requires.0 c.requires.1.coded,
      chars-there a.parts a.from a.block.now a.n c.requires.0 a.w c.requires.1,
    )

-- src/lib.rt:39:1
pub returns : goal.returns
unfolding part_in
returns c =
    let a = c.args in
    chars-most a.parts a.from a.block.now a.n c.requires.0 a.w c.requires.1 c.most.ensures
