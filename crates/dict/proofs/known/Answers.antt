-- `dict::known` meets its contract. The loop's invariant is `Looking`. Assumes nothing.
use native.Mathlib.Omega.{arith}
use Rattle.dict.proofs.Slots as laws
use Rattle.dict.proofs.known.Goals as goal

pub loop-i-init : goal.loop-i-init
loop-i-init c = laws.looking-start _ _ _

pub returns-then-entries-slot_at : goal.returns-then-entries-slot_at
returns-then-entries-slot_at c = laws.looking-stop c.loop-i.invariant (omega arith) (omega (arith, c.slot_at.ensures.0))

pub loop-i-preserved : goal.loop-i-preserved
loop-i-preserved c = laws.looking-step c.loop-i.invariant (omega arith) (omega (arith, c.slot_at.ensures.0))

pub returns : goal.returns
returns c = laws.looking-end c.loop-i.invariant (omega arith)
