-- `values` meets its contract: each arm stores the values of the shape that it found. Assumes nothing.
use mathlib.Core.Path.{ap, ◌∙◌}
use lib.Seq.{sets}
use Rattle.plain.proofs.Items.{all_of_shape}
use Rattle.plain.proofs.values.Goals as goal

pub returns-in-Bool : goal.returns-in-Bool
returns-in-Bool c = let a = c.args in c.values_as.ensures ∙ ap (sets a.out.now 0) (all_of_shape a.p c.in-Bool.ensures a.s.now a.n a.from)

pub returns-in-Low2 : goal.returns-in-Low2
returns-in-Low2 c = let a = c.args in c.values_as-in-Low2.ensures ∙ ap (sets a.out.now 0) (all_of_shape a.p c.in-Low2.ensures a.s.now a.n a.from)

pub returns-in-Low4 : goal.returns-in-Low4
returns-in-Low4 c = let a = c.args in c.values_as-in-Low4.ensures ∙ ap (sets a.out.now 0) (all_of_shape a.p c.in-Low4.ensures a.s.now a.n a.from)

pub returns-in-Low8 : goal.returns-in-Low8
returns-in-Low8 c = let a = c.args in c.values_as-in-Low8.ensures ∙ ap (sets a.out.now 0) (all_of_shape a.p c.in-Low8.ensures a.s.now a.n a.from)

pub returns-in-High4 : goal.returns-in-High4
returns-in-High4 c = let a = c.args in c.values_as-in-High4.ensures ∙ ap (sets a.out.now 0) (all_of_shape a.p c.in-High4.ensures a.s.now a.n a.from)

pub returns-in-High8 : goal.returns-in-High8
returns-in-High8 c = let a = c.args in c.values_as-in-High8.ensures ∙ ap (sets a.out.now 0) (all_of_shape a.p c.in-High8.ensures a.s.now a.n a.from)
