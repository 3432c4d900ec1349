-- `slots::put_blob` meets its contract: the bytes are the item, and of a null nothing is written. Assumes nothing.
use native.Mathlib.Omega.{arith}
use Rattle.slots.proofs.Items.{blob-room, blob-put, blob-none}
use Rattle.slots.proofs.put_blob.Goals as goal

pub copy-requires : goal.copy-requires
copy-requires c =
    let a = c.args in
    (omega arith, blob-room a.present a.item.now a.items.now a.at c.requires c.if-present.true)

pub returns-then-present : goal.returns-then-present
returns-then-present c =
    blob-put _ _ _ _ c.requires c.if-present.true c.copy.ensures

pub returns-else-present : goal.returns-else-present
returns-else-present c = blob-none _ _ _ _ c.if-present.false
