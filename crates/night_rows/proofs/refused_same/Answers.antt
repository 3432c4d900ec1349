-- `refused_same` meets its contract: both memories are filled alike, and the second engine refuses that one. Assumes nothing.
use borrow.Author.Rules.{rules}
use lib.ListN.{length}
use mathlib.Core.Path.{◌≡◌, sym, subst}
use Rattle.fill.specs.Areas.{Areas}
use Rattle.slow_answer.specs.Slow.{refused_row, row_shown}
use Rattle.night_rows.proofs.Lent as laws
use Rattle.night_rows.proofs.refused_same.Goals as goal

pub refused_alike-requires : goal.refused_alike-requires
refused_alike-requires c =
    let one = laws.lent_is (length c.args.one.now) c.values-v.ensures c.flags-f.ensures c.ends-e.ensures (c.fill.ensures.after (search rules)) in
    let other = laws.lent_is (length c.args.other.now) c.values-w.ensures c.flags-g.ensures c.ends-h.ensures (c.fill-2.ensures.after (search rules)) in
    let a = c.args in
    (subst (λ (x : Areas). row_shown a.d a.block.now 0 x ≡ refused_row a.number x) (sym other) c.requires.0, laws.lent-twice c.requires.1 one other)
