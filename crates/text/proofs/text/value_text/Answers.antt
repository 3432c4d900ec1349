-- `value_text` meets its contract: the text is made in a room of its own and laid over the memory. Assumes nothing.
use native.Mathlib.Omega.{arith}
use mathlib.Core.Path.{sym}
use lib.Seq.{length-take-le}
use lib.ListN.{replicate}
use mir.Syntax.{w64}
use mir.Val.{of_z, to_z}
use mir.Facts.{to_z-of_z}
use Rattle.text.proofs.Laying as laws
use Rattle.text.proofs.text.value_text.Goals as goal

pub slice_bounds-lay-end : goal.slice_bounds-lay-end
slice_bounds-lay-end c =
    sym (length-take-le c.put_value-n.result c.put_value-n.new.out (omega (arith, c.put_value-n.auto.out, c.put_value-n.ensures.value.1)))

pub returns : goal.returns
returns c =
    let a = c.args in
    let all = laws.lays-same a.out.now
    (laws.value-back a.p (to_z w64 (of_z w64 a.v)) a.v (replicate 43 0) (to_z-of_z c.ranges.v)
    c.put_value-n.ensures.value.0 (omega (arith, c.put_value-n.ensures.value.1)) c.put_value-n.ensures.out_after)
    (c.lay.ensures.value, c.lay.ensures.out_after) in
    record { value = all.0; out_after = all.1 }
