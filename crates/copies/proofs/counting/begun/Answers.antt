-- `copies::begun` meets its contract: a row that is counted in and joins no run. Assumes nothing.
use mathlib.Core.Path.{refl, sym}
use Rattle.encode.proofs.Bools.{clash}
use Rattle.needs.specs.Needs.{keyed}
use Rattle.copies.proofs.Numbers as laws
use Rattle.copies.proofs.counting.begun.Goals as goal

pub counted_in-requires : goal.counted_in-requires
counted_in-requires c =
    let p = c.requires in
    (p.1, p.2, p.3, λ t. p.4 (laws.stored_of (keyed c.args.e) c.is_keyed.ensures t), λ t. clash (sym t), λ t. (laws.rows-stored-so c.args.e c.is_keyed.ensures t, refl))

pub returns : goal.returns
returns c =
    laws.begun-again c.args.e c.args.c _ c.args.len c.requires.0 c.is_keyed.ensures c.counted_in.ensures
