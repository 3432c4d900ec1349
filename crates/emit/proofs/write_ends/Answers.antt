-- `write_ends` meets its contract. The loop's invariant is `Laying`. Assumes nothing.
use native.Mathlib.Omega.{arith}
use Rattle.encode.specs.Bytes.{little}
use Rattle.emit.proofs.SlotLoops as laws
use Rattle.emit.proofs.write_ends.Goals as goal

pub loop-i-init : goal.loop-i-init
loop-i-init c = laws.laying-start (little 4) _ _ _ _ c.requires.1

pub overflow_cast-ends : goal.overflow_cast-ends
overflow_cast-ends c = omega (arith, c.type_inv.ends c.loop-i.i)

pub put_low4-to-requires : goal.put_low4-to-requires
put_low4-to-requires c = laws.laying-room (little 4) c.loop-i.invariant 0 (omega arith) (omega arith)

pub loop-i-preserved : goal.loop-i-preserved
loop-i-preserved c =
    laws.laying-step (little 4) c.loop-i.invariant 0 (omega arith) (omega arith) c.put_low4-to.ensures.value c.put_low4-to.ensures.out_after

pub shape_of-out : goal.shape_of-out
shape_of-out c = c.loop-i.invariant.long

pub returns : goal.returns
returns c =
    let all = laws.laying-end (little 4) c.loop-i.invariant (omega arith) in
    record { value = all.0; out_after = all.1 }
