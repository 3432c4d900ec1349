-- `needs::runs_short` meets its contract: each return by the law of the tests and arms that led there. Assumes nothing.
use Rattle.needs.specs.Tests.{runs_by}
use Rattle.needs.proofs.Encodings as encodings
use Rattle.needs.proofs.Short as short
use Rattle.needs.proofs.runs_short.Goals as goal

pub returns-then-inner_short : goal.returns-then-inner_short
returns-then-inner_short c =
    let a = c.args in
    short.short-inner a.kind (runs_by a.nullable) a.c a.room (encodings.runs-stored a.nullable a.c) (encodings.runs-flagged a.nullable)
    c.inner_short.ensures c.if-inner_short.true

pub returns : goal.returns
returns c =
    let a = c.args in
    short.short-runs a.kind (runs_by a.nullable) a.c a.room (encodings.runs-stored a.nullable a.c) (encodings.runs-flagged a.nullable)
    c.inner_short.ensures c.if-inner_short.false (short.runs-counts a.nullable a.c a.room)
