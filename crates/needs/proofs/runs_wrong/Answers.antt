-- `needs::runs_wrong` meets its contract: each return by the law of the tests and arms that led there. Assumes nothing.
use Rattle.needs.specs.Tests.{runs_by}
use Rattle.needs.proofs.Encodings as encodings
use Rattle.needs.proofs.Wrong as wrong
use native.Mathlib.Omega.{arith}
use Rattle.needs.proofs.runs_wrong.Goals as goal

pub returns-then-c-gt-MOST_BYTES : goal.returns-then-c-gt-MOST_BYTES
returns-then-c-gt-MOST_BYTES c = let a = c.args in wrong.wrong-counts a.kind (runs_by a.nullable) a.c (encodings.runs-coded a.nullable) c.if-c-gt-MOST_BYTES.true

pub returns-then-items_wrong : goal.returns-then-items_wrong
returns-then-items_wrong c =
    let a = c.args in
    wrong.wrong-items a.kind (runs_by a.nullable) a.c (encodings.runs-stored a.nullable a.c) c.items_wrong.ensures c.if-items_wrong.true

pub runs_past-requires : goal.runs_past-requires
runs_past-requires c = let h = (wrong.items-right _ _ _ c.items_wrong.ensures c.if-items_wrong.false).2 in let g = c.if-c-gt-MOST_BYTES.false in (omega (arith, h), omega (arith, g))

pub returns : goal.returns
returns c =
    let a = c.args in
    wrong.wrong-limits a.kind (runs_by a.nullable) a.c (encodings.runs-stored a.nullable a.c) c.items_wrong.ensures
    (λ _. c.if-c-gt-MOST_BYTES.false) c.if-items_wrong.false c.runs_past.ensures
