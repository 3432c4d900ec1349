-- `needs::rows_past` meets its contract: each return by the law of the tests and arms that led there. Assumes nothing.
use Prim.Native.Nat.{ℕ, ◌<◌}
use mathlib.Core.Path.{subst}
use Rattle.needs.specs.Tests.{rows_by}
use Rattle.needs.proofs.Encodings as encodings
use Rattle.needs.proofs.Limits as limits
use Rattle.limits.specs.Limits.{MOST_ITEMS}
use Rattle.needs.proofs.rows_past.Goals as goal

pub returns-then-c-gt-MOST_ITEMS : goal.returns-then-c-gt-MOST_ITEMS
returns-then-c-gt-MOST_ITEMS c =
    let a = c.args in
    limits.past-stored a.kind (rows_by a.nullable) a.c (subst (λ (n : ℕ). MOST_ITEMS < n) (encodings.rows-stored a.nullable a.c) c.if-c-gt-MOST_ITEMS.true)

pub returns : goal.returns
returns c =
    let a = c.args in
    limits.past-block a.kind (rows_by a.nullable) a.c (limits.rows_few a.nullable a.c c.if-c-gt-MOST_ITEMS.false) c.rows_bytes.ensures
