-- `part_rows::write_bits` meets its contract: run by run, or a bit a row. Assumes nothing.
use mathlib.Core.Path.{◌∙◌, ap}
use lib.Seq.{sets}
use Rattle.anatomy.specs.Parts.{part_in}
use Rattle.part_rows.proofs.FlagRows.{alone-few, bits-room, bits-flags}
use Rattle.part_rows.proofs.write_bits.Goals as goal

-- src/lib.rt:97:5
pub flags-requires : goal.flags-requires
unfolding part_in
flags-requires c =
    (alone-few _ _ _ _ c.requires.0 c.if-source.false, bits-room _ _ _ _ c.requires.0 c.if-source.false c.requires.2, c.requires.1.rows)

-- src/lib.rt:85:1
pub returns : goal.returns
unfolding part_in
returns c =
    let a = c.args in
    c.flags.ensures
    ∙ ap (sets a.flags.now 0) (bits-flags a.parts a.from a.block.now a.n c.requires.2 c.if-source.false)
