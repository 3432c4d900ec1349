-- `needs::rows_short` meets its contract: each return by the law of the tests and arms that led there. Assumes nothing.
use Rattle.needs.specs.Tests.{rows_by}
use Rattle.needs.proofs.Encodings as encodings
use Rattle.needs.proofs.Short as short
use Rattle.needs.proofs.rows_short.Goals as goal

pub returns : goal.returns
returns c =
    let a = c.args in
    short.short-rows a.kind (rows_by a.nullable) a.c a.room (encodings.rows-stored a.nullable a.c) (encodings.rows-flagged a.nullable)
    c.inner_short.ensures (short.rows_none a.nullable a.c a.room)
