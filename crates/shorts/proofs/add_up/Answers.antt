-- `shorts::add_up` meets its contract: what is added so far and what is left make up the whole. Assumes nothing.
use native.Mathlib.Omega.{arith}
use Rattle.shorts.proofs.Adding.{adding-start, adding-step, adding-end}
use Rattle.shorts.proofs.add_up.Goals as goal

pub loop-i-init : goal.loop-i-init
loop-i-init c = adding-start _ _ _ _

pub overflow_add-sum : goal.overflow_add-sum
overflow_add-sum c = omega (arith, c.loop-i.invariant.small, c.from-sum.ensures)

pub loop-i-preserved : goal.loop-i-preserved
loop-i-preserved c = adding-step c.loop-i.invariant (omega arith) (omega arith) c.from-sum.ensures (omega arith)

pub returns : goal.returns
returns c = adding-end c.loop-i.invariant (omega arith)
