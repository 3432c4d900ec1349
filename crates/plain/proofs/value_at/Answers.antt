-- `value_at` meets its contract: each arm has the values of the shape that it found. Assumes nothing.
use mathlib.Core.Path.{◌∙◌}
use borrow.Author.Rules.{rules}
use Rattle.plain.proofs.Items.{of_shape}
use Rattle.plain.proofs.value_at.Goals as goal

pub returns-in-Bool : goal.returns-in-Bool
returns-in-Bool c = search rules ∙ c.value_as.ensures ∙ of_shape c.args.p c.in-Bool.ensures c.args.s.now c.args.i

pub returns-in-Low2 : goal.returns-in-Low2
returns-in-Low2 c = search rules ∙ c.value_as-in-Low2.ensures ∙ of_shape c.args.p c.in-Low2.ensures c.args.s.now c.args.i

pub returns-in-Low4 : goal.returns-in-Low4
returns-in-Low4 c = search rules ∙ c.value_as-in-Low4.ensures ∙ of_shape c.args.p c.in-Low4.ensures c.args.s.now c.args.i

pub returns-in-Low8 : goal.returns-in-Low8
returns-in-Low8 c = search rules ∙ c.value_as-in-Low8.ensures ∙ of_shape c.args.p c.in-Low8.ensures c.args.s.now c.args.i

pub returns-in-High4 : goal.returns-in-High4
returns-in-High4 c = search rules ∙ c.value_as-in-High4.ensures ∙ of_shape c.args.p c.in-High4.ensures c.args.s.now c.args.i

pub returns-in-High8 : goal.returns-in-High8
returns-in-High8 c = search rules ∙ c.value_as-in-High8.ensures ∙ of_shape c.args.p c.in-High8.ensures c.args.s.now c.args.i
