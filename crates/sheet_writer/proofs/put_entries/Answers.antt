-- `sheet_writer::put_entries` meets its contract. The loop's invariant is `Entering`. Assumes nothing.
use native.Mathlib.Omega.{arith}
use Rattle.sheet_writer.proofs.Loops as laws
use Rattle.sheet_writer.proofs.put_entries.Goals as goal

pub loop-i-init : goal.loop-i-init
loop-i-init c = laws.entering-start _ _ _

pub put_entry-requires : goal.put_entry-requires
put_entry-requires c = (omega (arith, c.loop-i.invariant), omega (arith, c.loop-i.invariant.long))

pub overflow_add-from-in-loop-i-2 : goal.overflow_add-from-in-loop-i-2
overflow_add-from-in-loop-i-2 c = omega (arith, laws.entering-held c.loop-i.invariant (omega arith))

pub loop-i-preserved : goal.loop-i-preserved
loop-i-preserved c = laws.entering-step c.loop-i.invariant (omega arith) c.put_entry.ensures

pub shape_of-out : goal.shape_of-out
shape_of-out c = c.loop-i.invariant.long

pub returns : goal.returns
returns c = laws.entering-end c.loop-i.invariant (omega arith)
