-- `fixed_rows::value_of` meets its contract: a null has the value 0, and any other item that which it has. Assumes nothing.
use borrow.Author.Rules.{rules}
use native.Mathlib.Omega.{arith}
use Rattle.fixed_rows.proofs.Values.{int-none, int-some, item-there}
use Rattle.fixed_rows.proofs.value_of.Goals as goal

pub returns-then-slot-eq0 : goal.returns-then-slot-eq0
returns-then-slot-eq0 c = let a = c.args in int-none a.p a.n a.items.now a.slot c.if-slot-eq0.true

pub value_at-requires : goal.value_at-requires
value_at-requires c =
    let a = c.args in
    (omega arith, item-there a.p a.n a.items.now a.slot c.if-slot-eq0.false c.requires.0 c.requires.2)

pub returns : goal.returns
returns c =
    let a = c.args in
    int-some a.p a.n a.items.now a.slot c.if-slot-eq0.false (search rules) c.value_at.ensures
