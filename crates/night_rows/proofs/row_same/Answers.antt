-- `row_same` meets its contract: both memories that it lends are filled alike. Assumes nothing.
use borrow.Author.Rules.{rules}
use lib.ListN.{length}
use Rattle.night_rows.proofs.Lent as laws
use Rattle.night_rows.proofs.row_same.Goals as goal

pub row_alike-requires : goal.row_alike-requires
row_alike-requires c =
    let one = laws.lent_is (length c.args.one.now) c.values-v.ensures c.flags-f.ensures c.ends-e.ensures (c.fill.ensures.after (search rules)) in
    let other = laws.lent_is (length c.args.other.now) c.values-w.ensures c.flags-g.ensures c.ends-h.ensures (c.fill-2.ensures.after (search rules)) in
    (c.requires.0, c.requires.1, laws.lent-twice c.requires.2 one other)
