-- `matching::same_slot` meets its contract: a null is the same as a null alone, and items are compared as `same_item` does. Assumes nothing.
use Rattle.matching.proofs.Pairs.{there, null-first, null-second, both_some}
use Rattle.matching.proofs.same_slot.Goals as goal

pub returns-then-slot-eq0 : goal.returns-then-slot-eq0
returns-then-slot-eq0 c =
    let a = c.args in
    null-first a.kind a.n a.items.now a.m a.others.now a.slot a.other c.if-slot-eq0.true

pub returns-then-other-eq0 : goal.returns-then-other-eq0
returns-then-other-eq0 c =
    let a = c.args in
    null-second a.kind a.n a.items.now a.m a.others.now a.slot a.other c.if-slot-eq0.false c.if-other-eq0.true

pub same_item-requires : goal.same_item-requires
same_item-requires c =
    let h = c.requires in
    (there h.0 c.if-slot-eq0.false, there h.1 c.if-other-eq0.false)

pub returns : goal.returns
returns c =
    let a = c.args in
    both_some a.kind a.n a.items.now a.m a.others.now a.slot a.other c.if-slot-eq0.false c.if-other-eq0.false c.same_item.ensures
