-- `part_rows::write_values` meets its contract: the parts are those that the definition reads. Assumes nothing.
use Rattle.anatomy.specs.Parts.{part_in}
use Rattle.part_rows.specs.PartRows.{steps_by}
use Rattle.part_rows.proofs.write_values.Goals as goal

-- src/lib.rt:58:5
pub put_values-requires : goal.put_values-requires
unfolding part_in steps_by
put_values-requires c =
    (c.requires.0.ready, c.requires.0.starts, c.requires.1, c.requires.2)

-- src/lib.rt:37:1
pub returns : goal.returns
unfolding part_in steps_by
returns c = c.put_values.ensures
