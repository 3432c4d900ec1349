-- `column_verdict` meets its contract: each return by the law of the number that led there. Assumes nothing.
use native.Mathlib.Omega.{arith}
use Rattle.sheet.proofs.Entries.{descriptor-read}
use Rattle.night_by.proofs.Verdicts as laws
use Rattle.night_by.proofs.column_verdict.Goals as goal

pub returns-then-found-eq-OUTSIDE : goal.returns-then-found-eq-OUTSIDE
returns-then-found-eq-OUTSIDE c =
    laws.not-asked _ _ c.requires.0 c.requires.1 c.open-found.ensures c.if-found-eq-OUTSIDE.true

pub compare_lent-requires : goal.compare_lent-requires
compare_lent-requires c =
    let a = c.args in
    let read = descriptor-read a.file.now a.j c.descriptor_at-d.ensures in
    let fits = laws.part-fits a.file.now a.j c.requires.0 c.requires.1 c.open-found.ensures c.if-found-eq-OUTSIDE.false read c.part-block.ensures in (
      laws.number-asked _ _ c.requires.0 c.requires.1 c.open-found.ensures c.if-found-eq-OUTSIDE.false read c.part-block.ensures,
      laws.reader-asked _ _ c.requires.0 c.requires.1 c.open-found.ensures c.if-found-eq-OUTSIDE.false read c.part-block.ensures,
      omega (arith, fits, c.requires.0.short),
      omega (arith, fits, c.requires.0.short),
    )

pub returns : goal.returns
returns c =
    let a = c.args in
    laws.column-compared
    a.file.now
    a.j
    c.requires.0
    c.requires.1
    c.open-found.ensures
    c.if-found-eq-OUTSIDE.false
    (descriptor-read a.file.now a.j c.descriptor_at-d.ensures)
    c.part-block.ensures
    c.compare_lent.ensures
