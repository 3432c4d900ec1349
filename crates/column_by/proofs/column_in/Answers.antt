-- `column_in` meets its contract: the digits taken are those of the text so far. Assumes nothing.
use native.Mathlib.Omega.{arith}
use mathlib.Core.Path.{◌≡◌, sym, ◌∙◌}
use Rattle.std.proofs.lemmas.Bool.Decides.{nat_tests}
use Rattle.std.specs.Prelude.{Some, None}
use Rattle.column_by.proofs.Digits as laws
use Rattle.column_by.proofs.column_in.Goals as goal

pub returns-then-is_empty : goal.returns-then-is_empty
returns-then-is_empty c = laws.none-to-take _ (grind (arith, nat_tests))

pub loop-b-init : goal.loop-b-init
loop-b-init c = laws.taking-start _ (λ z. grind (arith, nat_tests))

pub returns-in_err-n : goal.returns-in_err-n
returns-in_err-n c =
    let none : c.with_digit.result ≡ None = cc in
    let back : c.from_residual.result ≡ None = cc in
    back ∙ laws.taking-refused c.loop-b.invariant c.loop-b-test.true (sym c.with_digit.ensures ∙ none)

pub loop-b-preserved : goal.loop-b-preserved
loop-b-preserved c =
    let some : c.with_digit.result ≡ Some c.in_ok-n.n = cc in
    laws.taking_step c.loop-b.invariant c.loop-b-test.true (sym c.with_digit.ensures ∙ some)

pub returns : goal.returns
returns c = laws.taking-end c.loop-b.invariant (omega arith)
