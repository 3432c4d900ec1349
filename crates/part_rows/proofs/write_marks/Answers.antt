-- `part_rows::write_marks` meets its contract: the parts are those that the definition reads. Assumes nothing.
use Rattle.anatomy.specs.Parts.{part_in}
use Rattle.part_rows.specs.PartRows.{steps_by}
use Rattle.part_rows.proofs.write_marks.Goals as goal

-- src/lib.rt:115:5
pub put_flags-requires : goal.put_flags-requires
unfolding part_in steps_by
put_flags-requires c =
    (c.requires.0.ready, c.requires.0.starts, c.requires.1)

-- src/lib.rt:101:1
pub returns : goal.returns
unfolding part_in steps_by
returns c = c.put_flags.ensures
