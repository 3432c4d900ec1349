-- `area::fill` meets its contract. The loop's invariant is `Filling`. Assumes nothing.
use native.Mathlib.Omega.{arith}
use Rattle.area.proofs.Loops as laws
use Rattle.area.proofs.fill.Goals as goal

pub loop-i-init : goal.loop-i-init
loop-i-init g c = laws.filling-start _ _ _ _ (omega arith)

pub loop-i-preserved : goal.loop-i-preserved
loop-i-preserved g c = laws.filling_step c.loop-i.invariant (omega arith)

pub returns : goal.returns
returns g c = laws.filling-end c.loop-i.invariant (omega arith)
