-- `compare_sheet` meets its contract: it has its columns, none of which differs, or is refused. Assumes nothing.
use native.Mathlib.Omega.{arith}
use mathlib.Core.Path.{◌∙◌}
use Rattle.night_by.proofs.Verdicts as laws
use Rattle.night_by.proofs.compare_sheet.Goals as goal

pub returns-then-number-ne0 : goal.returns-then-number-ne0
returns-then-number-ne0 c = c.say_verdict.ensures ∙ laws.refused-same _

pub bounds-file-0 : goal.bounds-file-0
bounds-file-0 c =
    let dir = c.sheet_number-number.ensures c.if-number-ne0.false in omega (arith, dir.whole)

pub overflow_cast-file : goal.overflow_cast-file
overflow_cast-file c = record { fits = omega (arith, c.type_inv.file 0) }

pub compare_columns-requires : goal.compare_columns-requires
compare_columns-requires c =
    (c.sheet_number-number.ensures c.if-number-ne0.false, omega arith, c.requires.0, c.requires.1)
