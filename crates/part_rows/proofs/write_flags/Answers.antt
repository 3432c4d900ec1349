-- `part_rows::write_flags` meets its contract: 1 a row where there are no marks, and otherwise by its callees. Assumes nothing.
use mathlib.Core.Path.{◌∙◌, ap}
use lib.Seq.{sets}
use Rattle.part_rows.proofs.FlagRows.{bare-flags}
use Rattle.part_rows.proofs.write_flags.Goals as goal

-- src/lib.rt:71:1
pub returns-in-Bare : goal.returns-in-Bare
returns-in-Bare c =
    let a = c.args in
    c.fill.ensures
    ∙ ap (sets a.flags.now 0) (bare-flags a.parts a.from a.block.now a.n c.in-Bare.is c.requires.1.fine)
