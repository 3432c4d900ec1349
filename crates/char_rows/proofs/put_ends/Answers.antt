-- `put_ends` meets its contract. The loop's invariant: what is still to be stored, from the total so far on. Assumes nothing.
use native.Mathlib.Omega.{arith}
use Rattle.plain.proofs.Items.{item-within}
use Rattle.char_rows.proofs.EndsStored.{stored-start, stored-step, stored-end}
use Rattle.char_rows.proofs.put_ends.Goals as goal

pub loop-i-init : goal.loop-i-init
loop-i-init c = stored-start _ _ _ _ _

pub text_len-requires : goal.text_len-requires
text_len-requires c = let a = c.args in item-within a.from c.loop-i.i a.n a.w _ c.loop-i-test.true c.requires.1

pub loop-i-preserved : goal.loop-i-preserved
loop-i-preserved c = stored-step c.loop-i.invariant (omega arith) c.text_len.ensures.0 (omega arith)

pub shape_of-ends : goal.shape_of-ends
shape_of-ends c = c.loop-i.invariant.room

pub returns : goal.returns
returns c =
    let all = stored-end c.loop-i.invariant (omega arith) in
    record { value = all.0; ends_after = all.1 }
