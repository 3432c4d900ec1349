-- `write_counts` meets its contract. The loop's invariant is `Laying`. Assumes nothing.
use native.Mathlib.Omega.{arith}
use Rattle.varint.specs.Varint.{spelling}
use Rattle.emit.specs.Parts.{held_counts}
use Rattle.emit.proofs.SlotLoops as laws
use Rattle.emit.proofs.write_counts.Goals as goal

pub loop-i-init : goal.loop-i-init
unfolding held_counts
loop-i-init c = laws.laying-start spelling _ _ _ _ c.requires.1

pub write_count-to-requires : goal.write_count-to-requires
write_count-to-requires c = laws.laying-room spelling c.loop-i.invariant 0 (omega arith) (omega arith)

pub loop-i-preserved : goal.loop-i-preserved
loop-i-preserved c =
    laws.laying-step spelling c.loop-i.invariant 0 (omega arith) (omega arith) c.write_count-to.ensures.value c.write_count-to.ensures.out_after

pub shape_of-out : goal.shape_of-out
shape_of-out c = c.loop-i.invariant.long

pub returns : goal.returns
unfolding held_counts
returns c =
    let all = laws.laying-end spelling c.loop-i.invariant (omega arith) in
    record { value = all.0; out_after = all.1 }
