-- `needs::keys_short` meets its contract: each return by the law of the tests and arms that led there. Assumes nothing.
use Rattle.format.specs.declared.Encoding.TheVariants.{Dictionary}
use Rattle.needs.proofs.Encodings as encodings
use Rattle.needs.proofs.Short as short
use Rattle.needs.proofs.keys_short.Goals as goal

pub returns-then-inner_short : goal.returns-then-inner_short
returns-then-inner_short c =
    let a = c.args in
    short.short-inner a.kind Dictionary a.c a.room (encodings.keys-stored a.c) encodings.keys-flagged c.inner_short.ensures c.if-inner_short.true

pub returns-then-room-c : goal.returns-then-room-c
returns-then-room-c c =
    let a = c.args in
    short.short-runs a.kind Dictionary a.c a.room (encodings.keys-stored a.c) encodings.keys-flagged
    c.inner_short.ensures c.if-inner_short.false (short.keys-counts a.c a.room c.if-room-c.true)

pub returns : goal.returns
returns c =
    let a = c.args in
    short.short-runs a.kind Dictionary a.c a.room (encodings.keys-stored a.c) encodings.keys-flagged
    c.inner_short.ensures c.if-inner_short.false
    (short.keys-keys a.c a.room c.if-room-c.false)
