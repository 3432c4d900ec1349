-- `sheet::part` meets its contract: nothing of a file or an entry that is refused, and else the bytes that the entry names. Assumes nothing.
use native.Mathlib.Omega.{arith}
use mathlib.Core.Path.{refl, sym, ◌∙◌}
use Rattle.sheet.proofs.Numbers.{none-refuses, none-told, some-told}
use Rattle.sheet.proofs.Answers as laws
use Rattle.sheet.proofs.part.Goals as goal

pub returns-then-is_err : goal.returns-then-is_err
returns-then-is_err c = laws.no_part _ _ refl (some-told _ c.check.ensures (sym c.is_err.ensures.value ∙ c.if-is_err.true))

pub entry_at-e-requires : goal.entry_at-e-requires
entry_at-e-requires c =
    let a = c.args in
    omega (arith, none-refuses a.file.now a.j (none-told _ c.check.ensures (sym c.is_err.ensures.value ∙ c.if-is_err.false)))

pub slice_bounds-result-end-2 : goal.slice_bounds-result-end-2
slice_bounds-result-end-2 c =
    let a = c.args in
    let z = none-told _ c.check.ensures (sym c.is_err.ensures.value ∙ c.if-is_err.false) in
    omega (arith, none-refuses a.file.now a.j z, c.entry_at-e.ensures.descriptor_value)

pub returns : goal.returns
returns c =
    let e = c.entry_at-e.ensures.descriptor_value in
    let z = none-told _ c.check.ensures (sym c.is_err.ensures.value ∙ c.if-is_err.false) in
    laws.part-found _ _ (sym z) (omega arith) e.0 e.1 e.2
