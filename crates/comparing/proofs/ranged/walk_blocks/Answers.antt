-- `walk_blocks` meets its contract: the slices are the parts. Assumes nothing.
use Rattle.anatomy.specs.Parts.{part_in}
use Rattle.comparing.proofs.ranged.walk_blocks.Goals as goal

pub walk-requires : goal.walk-requires
unfolding part_in
walk-requires c =
    let p = c.requires in
    (p.2, p.3, p.4)

pub returns : goal.returns
unfolding part_in
returns c = c.walk.ensures
