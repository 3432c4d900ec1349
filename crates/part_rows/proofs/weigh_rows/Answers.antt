-- `part_rows::weigh_rows` meets its contract: the parts are those that the definition reads. Assumes nothing.
use Rattle.anatomy.specs.Parts.{part_in}
use Rattle.part_rows.specs.PartRows.{steps_by}
use Rattle.part_rows.proofs.weigh_rows.Goals as goal

-- src/lib.rt:33:5
pub weigh-requires : goal.weigh-requires
unfolding part_in
weigh-requires c = (c.requires.ready, c.requires.starts)

-- src/lib.rt:19:1
pub returns : goal.returns
unfolding part_in steps_by
returns c = c.weigh.ensures
