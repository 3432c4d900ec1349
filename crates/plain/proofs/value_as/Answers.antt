-- `value_as` meets its contract: the law of an item's value. Assumes nothing.
use borrow.Author.Rules.{rules}
use Rattle.plain.proofs.Items.{value}
use Rattle.plain.proofs.value_as.Goals as goal

pub returns : goal.returns
returns g c =
    let k = g.K.FixedKind.shape in
    value k c.args.s.now c.args.i g.K.FixedKind.WIDTH g.met.K.FixedKind.wide c.requires.1 (search rules) c.decode.ensures (search rules)
