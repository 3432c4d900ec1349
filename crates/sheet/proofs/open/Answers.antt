-- `sheet::open` meets its contract: a file or an entry that is refused, and each case of the block's opening, by its law. Assumes nothing.
use native.Mathlib.Omega.{arith}
use mathlib.Core.Path.{sym, ◌∙◌}
use Rattle.sheet.proofs.Numbers.{none-refuses, refused-told, done-told}
use Rattle.sheet.proofs.Answers as laws
use Rattle.sheet.proofs.open.Goals as goal

pub returns-in-Err : goal.returns-in-Err
returns-in-Err c =
    let t = refused-told _ _ c.check.ensures c.in-Err.is c.from.ensures in
    c.none.ensures ∙ laws.nothing-found _ _ t.0 t.1

pub entry_at-e-requires : goal.entry_at-e-requires
entry_at-e-requires c =
    let a = c.args in
    omega (arith, none-refuses a.file.now a.j (done-told c.check.ensures c.in_default.is))

pub slice_bounds-open_by_number-end : goal.slice_bounds-open_by_number-end
slice_bounds-open_by_number-end c =
    let a = c.args in
    omega (arith, none-refuses a.file.now a.j (done-told c.check.ensures c.in_default.is), c.entry_at-e.ensures.descriptor_value)

pub returns-then-opening-ne0 : goal.returns-then-opening-ne0
returns-then-opening-ne0 c =
    let e = c.entry_at-e.ensures.descriptor_value in
    c.none-then-opening-ne0.ensures
    ∙ laws.column-refused _ _ (sym (done-told c.check.ensures c.in_default.is)) (omega arith) e.0 e.1 e.2 c.open_by_number-opening.ensures (omega arith)

pub returns : goal.returns
returns c =
    let e = c.entry_at-e.ensures.descriptor_value in
    laws.column-found _ _ (sym (done-told c.check.ensures c.in_default.is)) (omega arith) e.0 e.1 e.2 c.open_by_number-opening.ensures (omega arith)
