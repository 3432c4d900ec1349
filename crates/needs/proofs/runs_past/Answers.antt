-- `needs::runs_past` meets its contract: each return by the law of the tests and arms that led there. Assumes nothing.
use Rattle.needs.specs.Tests.{runs_by}
use Rattle.needs.proofs.Encodings as encodings
use Rattle.needs.proofs.Limits as limits
use Rattle.needs.proofs.runs_past.Goals as goal

pub returns-then-c-gt-MOST_ROWS : goal.returns-then-c-gt-MOST_ROWS
returns-then-c-gt-MOST_ROWS c = let a = c.args in limits.past-rows a.kind (runs_by a.nullable) a.c c.if-c-gt-MOST_ROWS.true

pub returns-then-c-gt-MOST_ITEMS : goal.returns-then-c-gt-MOST_ITEMS
returns-then-c-gt-MOST_ITEMS c = let a = c.args in limits.past-runs a.kind (runs_by a.nullable) a.c (encodings.runs-coded a.nullable) c.if-c-gt-MOST_ITEMS.true

pub returns : goal.returns
returns c =
    let a = c.args in
    limits.past-block a.kind (runs_by a.nullable) a.c (limits.runs-few a.c c.if-c-gt-MOST_ROWS.false c.if-c-gt-MOST_ITEMS.false a.nullable)
    c.runs_bytes.ensures
