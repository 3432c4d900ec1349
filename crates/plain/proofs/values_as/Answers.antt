-- `values_as` meets its contract: the law of the loop that stores. Assumes nothing.
use native.Mathlib.Omega.{arith}
use borrow.Author.Rules.{rules}
use mathlib.Core.Path.{◌∙◌}
use Rattle.plain.proofs.Items.{storing-start, storing-step, storing-end}
use Rattle.plain.proofs.values_as.Goals as goal

pub loop-i-init : goal.loop-i-init
loop-i-init g c = storing-start _ _ _ _

pub loop-i-preserved : goal.loop-i-preserved
loop-i-preserved g c = storing-step c.loop-i.invariant (omega arith) (search rules ∙ c.value_as.ensures)

pub shape_of-out : goal.shape_of-out
shape_of-out g c = c.loop-i.invariant.room

pub returns : goal.returns
returns g c = storing-end c.loop-i.invariant (omega arith)
