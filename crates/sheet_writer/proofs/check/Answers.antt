-- `sheet_writer::check` meets its contract: a block that isn't held, and one that is opened, by its law. Assumes nothing.
use native.Mathlib.Omega.{arith}
use mathlib.Core.Path.{refl, ap}
use Rattle.std.proofs.lemmas.Result.{err_from_is_err_and}
use Rattle.block.specs.Reading.{opening_of}
use Rattle.sheet_writer.proofs.Columns as laws
use Rattle.sheet_writer.proofs.check.Goals as goal

pub returns-then-blocks-at : goal.returns-then-blocks-at
returns-then-blocks-at c =
    let a = c.args in
    laws.cut-there a.numbers.now a.blocks.now a.place a.at refl (omega arith)

pub returns-in_err-open : goal.returns-in_err-open
unfolding opening_of
returns-in_err-open c =
    let a = c.args in
    let p = err_from_is_err_and c.from_residual.result c.from_residual.ensures.1 in
    rw (p.1, p.2)
    (laws.opened-there a.numbers.now a.blocks.now a.place a.at refl (omega arith) c.descriptor_at-d.ensures (ap opening_of c.in_err-open.ensures))

pub returns : goal.returns
unfolding opening_of
returns c =
    let a = c.args in
    laws.opened-there a.numbers.now a.blocks.now a.place a.at refl (omega arith) c.descriptor_at-d.ensures (ap opening_of c.in_ok-open.ensures)
