-- `inner_number` meets its contract: each arm gives the number of its rules. Assumes nothing.
use mathlib.Core.Path.{sym, ap, ◌∙◌}
use Rattle.format.specs.Found.{inner_number}
use Rattle.slow_rules.proofs.inner_number.Goals as goal

pub returns-then-nullable : goal.returns-then-nullable
unfolding inner_number
returns-then-nullable c =
    let a = c.args in
    c.nullable_number.ensures ∙ ap (λ t. inner_number t a.kind a.n a.s.now) (sym c.if-nullable.true)

pub returns : goal.returns
unfolding inner_number
returns c =
    let a = c.args in
    c.plain_number.ensures ∙ ap (λ t. inner_number t a.kind a.n a.s.now) (sym c.if-nullable.false)
