-- `counts_len` meets its contract. The loop's invariant is `Measuring`. Assumes nothing.
use native.Mathlib.Omega.{arith}
use Rattle.emit.proofs.SlotLoops as laws
use Rattle.emit.proofs.counts_len.Goals as goal

pub loop-i-init : goal.loop-i-init
loop-i-init c = laws.measuring-start _ _

pub overflow_add-len : goal.overflow_add-len
overflow_add-len c = let g = laws.measuring-step c.loop-i.invariant (omega arith) (omega arith) _ c.size-len.ensures in omega (arith, g.small)

pub loop-i-preserved : goal.loop-i-preserved
loop-i-preserved c = laws.measuring-step c.loop-i.invariant (omega arith) (omega arith) _ c.size-len.ensures

pub returns : goal.returns
returns c = laws.measuring-end c.loop-i.invariant (omega arith) (omega arith)
