-- `compare_opened` meets its contract: each return by the law of the number that led there. Assumes nothing.
use native.Mathlib.Omega.{arith}
use Rattle.night_rows.specs.declared.Verdict.TheVariants.{Same}
use Rattle.night_rows.specs.Night.{rows_compared}
use mathlib.Core.Path.{◌≡◌, ap, sym, ◌∙◌}
use Rattle.slow_laws.proofs.Refusing.{refused-too-far}
use Rattle.night_rows.proofs.Columns as laws
use Rattle.night_rows.proofs.compare_opened.Goals as goal

pub refused_same-requires : goal.refused_same-requires
refused_same-requires c =
    (laws.refused-shown _ _ c.requires.0 c.if-number-ne0.true _, c.requires.2)

pub returns-then-refused_same : goal.returns-then-refused_same
returns-then-refused_same c =
    laws.refused-verdict _ _ c.requires.0 c.if-number-ne0.true

pub refused_same-requires-then-d-eq0 : goal.refused_same-requires-then-d-eq0
refused_same-requires-then-d-eq0 c =
    (refused-too-far _ _ 0 _ (sym c.requires.0 ∙ c.if-number-ne0.false) (omega arith), c.requires.2)

pub returns-then-refused_same-2 : goal.returns-then-refused_same-2
returns-then-refused_same-2 c =
    laws.same-verdict _ _ (sym c.requires.0 ∙ c.if-number-ne0.false) (laws.none-due _ c.if-d-eq0.true)

pub compare_rows-requires : goal.compare_rows-requires
compare_rows-requires c =
    (record { sound = sym c.requires.0 ∙ c.if-number-ne0.false; opened = c.requires.1 c.if-number-ne0.false }, c.requires.2)

pub returns-in-Ok : goal.returns-in-Ok
returns-in-Ok c =
    let rows : c.in-Ok.rows ≡ rows_compared c.args.d.rows = cc in
    laws.same-verdict _ _ (sym c.requires.0 ∙ c.if-number-ne0.false) (ap Same rows)
