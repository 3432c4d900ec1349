-- `slots::put_value` meets its contract: what is encoded is the row's integer, and of a null the default; the width beside it is the kind's. Assumes nothing.
use Rattle.slots.proofs.Items.{width-given, wide_room, wide-put, fixed-room, fixed-put, default-put}
use Rattle.slots.proofs.put_value.Goals as goal

pub put-requires : goal.put-requires
put-requires c =
    let a = c.args in
    (width-given a.p c.width.ensures, wide_room a.p c.width.ensures _ _ (fixed-room a.items.now a.at a.p a.present a.value c.requires))

pub returns-then-present : goal.returns-then-present
returns-then-present c =
    let a = c.args in
    fixed-put a.items.now a.at a.p a.present a.value c.requires c.if-present.true c.ranges.value
    c.encode.ensures (wide-put a.p c.width.ensures _ _ _ c.put.ensures)

pub put-requires-2 : goal.put-requires-2
put-requires-2 c =
    let a = c.args in
    (width-given a.p c.width-2.ensures, wide_room a.p c.width-2.ensures _ _ (fixed-room a.items.now a.at a.p a.present a.value c.requires))

pub returns : goal.returns
returns c =
    let a = c.args in
    let z = c.default_value in
    default-put a.items.now a.at a.p a.present a.value c.requires c.if-present.false z.result z.ensures
    c.encode-2.ensures (wide-put a.p c.width-2.ensures _ _ _ c.put-2.ensures)
