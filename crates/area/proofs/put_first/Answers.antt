-- `area::put_first` meets its contract. The loop's invariant is `Copying`, of the item's first bytes. Assumes nothing.
use native.Mathlib.Nat.{zero-add}
use native.Mathlib.Omega.{arith}
use Rattle.area.proofs.Loops as laws
use Rattle.area.proofs.put_first.Goals as goal

pub loop-i-init : goal.loop-i-init
loop-i-init g c = laws.copying-start _ _ _ _ _ c.requires.0

pub loop-i-preserved : goal.loop-i-preserved
loop-i-preserved g c = rw (zero-add c.loop-i.i) at (laws.copying-step c.loop-i.invariant (omega arith) (omega arith))

pub returns : goal.returns
returns g c = laws.copying-end c.loop-i.invariant (omega arith)
