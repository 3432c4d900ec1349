-- `area::copy` meets its contract. The loop's invariant is `Copying`. Assumes nothing.
use native.Mathlib.Omega.{arith}
use Rattle.area.proofs.Loops as laws
use Rattle.area.proofs.copy.Goals as goal

pub loop-i-init : goal.loop-i-init
loop-i-init c = laws.copying-start _ _ _ _ _ (omega arith)

pub loop-i-preserved : goal.loop-i-preserved
loop-i-preserved c = laws.copying-step c.loop-i.invariant (omega arith) (omega arith)

pub returns : goal.returns
returns c = laws.copying-end c.loop-i.invariant (omega arith)
