-- `run_place` meets its contract: the place of the run's item, in the block behind the counts. Assumes nothing.
use Rattle.slow_places.proofs.Runs.{has-counted, items-room, items-opened, moved-fits, run-told}
use Rattle.slow_places.proofs.run_place.Goals as goal

pub run_at-at-requires : goal.run_at-at-requires
run_at-at-requires c = has-counted c.args.nullable c.requires

pub slice_bounds-item_place-count : goal.slice_bounds-item_place-count
slice_bounds-item_place-count c = items-room c.args.nullable c.requires c.run_at-at.ensures

pub slice_bounds-item_place-start : goal.slice_bounds-item_place-start
slice_bounds-item_place-start c = items-room c.args.nullable c.requires c.run_at-at.ensures

pub item_place-requires : goal.item_place-requires
item_place-requires c =
    (items-opened c.args.nullable c.requires c.run_at-at.ensures, c.run_at-at.ensures.below)

pub moved-requires : goal.moved-requires
moved-requires c =
    moved-fits c.args.nullable c.requires c.run_at-at.ensures c.item_place.ensures

pub returns : goal.returns
returns c =
    run-told c.args.nullable c.requires c.run_at-at.ensures c.item_place.ensures c.moved.ensures
