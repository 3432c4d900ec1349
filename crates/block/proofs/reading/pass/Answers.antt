-- `block::pass` meets its contract: the counts are those that the definition reads. Assumes nothing.
use mathlib.Core.Path.{◌∙◌}
use Rattle.anatomy.specs.Parts.{part_in}
use Rattle.block.proofs.ReadRows.{pass-items, pass-runs}
use Rattle.block.proofs.reading.pass.Goals as goal

pub returns-then-not-source : goal.returns-then-not-source
returns-then-not-source c =
    let a = c.args in
    pass-items a.parts a.from a.block.now a.n c.if-not-source.true

pub returns : goal.returns
unfolding part_in
returns c =
    let a = c.args in
    c.advance.ensures ∙ pass-runs a.parts a.from a.block.now a.n c.if-not-source.false
