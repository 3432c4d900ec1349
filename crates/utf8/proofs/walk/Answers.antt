-- `walk` meets its contract. The loop's invariant: the state, and the bytes that are left, decide what is due in the end. Assumes nothing.
use mathlib.Core.Path.{refl}
use native.Mathlib.Omega.{arith}
use Rattle.utf8.proofs.Walking.{walking_start, walking-step, walking-end}
use Rattle.utf8.proofs.walk.Goals as goal

pub loop-i-init : goal.loop-i-init
loop-i-init c = walking_start _ _ _

pub loop-i-preserved : goal.loop-i-preserved
loop-i-preserved c = walking-step c.loop-i.invariant (omega arith) (omega arith) _ _ refl c.moved-state.ensures

pub returns : goal.returns
returns c = (c.loop-i.invariant.known, walking-end c.loop-i.invariant (omega arith))
