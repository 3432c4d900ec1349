-- `used::name_of` meets its contract: a marked item is the first of its like, and every other is looked for. Assumes nothing.
use mathlib.Core.Path.{sym, ◌∙◌}
use native.Mathlib.Omega.{arith}
use Rattle.used.proofs.Marks.{like-inside, own_like}
use Rattle.used.proofs.name_of.Goals as goal

pub returns-then-bit_at-eq1 : goal.returns-then-bit_at-eq1
returns-then-bit_at-eq1 c =
    let a = c.args in
    let p = c.requires in
    (own_like a.kind a.n a.items.now a.slot p.3 p.4 p.2 (sym c.bit_at.ensures.0 ∙ c.if-bit_at-eq1.true), omega arith)

pub returns : goal.returns
returns c =
    let a = c.args in
    let p = c.requires in
    (c.first_like.ensures, omega (arith, c.first_like.ensures, like-inside a.kind a.n a.items.now a.slot p.3 p.4))
