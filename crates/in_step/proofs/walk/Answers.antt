-- `in_step::walk` meets its contract: run by run, or item by item where the rows of both are items of a fixed kind. Assumes nothing.
use Rattle.in_step.proofs.ByItems as laws
use Rattle.in_step.proofs.walk.Goals as goal

pub walk_items-requires : goal.walk_items-requires
walk_items-requires c =
    let p = c.requires in
    let x = laws.bared _ c.way_of.ensures c.in-Some-Some.is-0 in
    let y = laws.as_first x (laws.bared _ c.way_of-2.ensures c.in-Some-Some.is-1) p.2 in
    (laws.items-few x p.0, laws.items-there x p.0, laws.items-there y p.1)

pub returns-in-Some-Some : goal.returns-in-Some-Some
returns-in-Some-Some c =
    let p = c.requires in
    let x = laws.bared _ c.way_of.ensures c.in-Some-Some.is-0 in
    let y = laws.as_first x (laws.bared _ c.way_of-2.ensures c.in-Some-Some.is-1) p.2 in
    rw (laws.items-rows x p.0, laws.items-rows y p.1) c.walk_items.ensures
