-- `item_place` meets its contract: an item of a plain block is what it is, and a nullable block has its own function. Assumes nothing.
use mathlib.Core.Path.{ap}
use Rattle.slow_places.specs.Inner.{items_by}
use Rattle.slow_places.proofs.Items.{opened-as, told-as, plain-told}
use Rattle.slow_places.proofs.item_place.Goals as goal

pub nullable_place-requires : goal.nullable_place-requires
nullable_place-requires c = (opened-as (ap items_by c.if-nullable.true) c.requires.0, c.requires.1)

pub returns-then-nullable : goal.returns-then-nullable
returns-then-nullable c = told-as (ap items_by c.if-nullable.true) c.nullable_place.ensures

pub returns : goal.returns
returns c =
    let e = ap items_by c.if-nullable.false in
    told-as e (plain-told _ _ _ c.requires.1 (opened-as e c.requires.0))
