-- `needs::inner_short` meets its contract: each return by the law of the tests and arms that led there. Assumes nothing.
use Rattle.needs.proofs.Short as short
use Rattle.needs.proofs.inner_short.Goals as goal

pub returns-then-room-len : goal.returns-then-room-len
returns-then-room-len c = let a = c.args in short.inner-items a.kind a.nullable a.n a.len a.room c.if-room-len.true

pub returns-then-fields_short : goal.returns-then-fields_short
returns-then-fields_short c =
    let a = c.args in
    short.inner-fields a.kind a.nullable a.n a.len a.room c.if-room-len.false c.fields_short.ensures c.if-fields_short.true

pub returns-then-nullable : goal.returns-then-nullable
returns-then-nullable c =
    let a = c.args in
    short.inner-flags a.kind a.nullable a.n a.len a.room c.if-room-len.false
    c.fields_short.ensures c.if-fields_short.false c.if-nullable.true c.bitmap_len.ensures.0

pub returns : goal.returns
returns c =
    let a = c.args in
    short.inner-fits a.kind a.nullable a.n a.len a.room c.if-room-len.false c.fields_short.ensures
    c.if-fields_short.false c.if-nullable.false
