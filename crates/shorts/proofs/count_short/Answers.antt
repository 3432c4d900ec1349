-- `shorts::count_short` meets its contract: what is counted so far and what is left make up the whole. Assumes nothing.
use native.Mathlib.Omega.{arith}
use Rattle.shorts.proofs.Adding.{adding-start, adding-step, adding-end}
use Rattle.shorts.proofs.count_short.Goals as goal

pub loop-i-init : goal.loop-i-init
loop-i-init c = adding-start _ _ _ _

pub overflow_add-found : goal.overflow_add-found
overflow_add-found c = omega (arith, c.loop-i.invariant.small, c.one_if_short-found.ensures)

pub loop-i-preserved : goal.loop-i-preserved
loop-i-preserved c = adding-step c.loop-i.invariant (omega arith) (omega arith) c.one_if_short-found.ensures.0 (omega arith)

pub returns : goal.returns
returns c = adding-end c.loop-i.invariant (omega arith)
