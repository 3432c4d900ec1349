-- `put_interval` meets its contract: months, the space and days, one behind the other. Assumes nothing.
use native.Mathlib.Omega.{arith}
use lib.ListN.{length, length-set}
use mathlib.Core.Path.{ap, ◌∙◌}
use lib.Seq.{length-sets}
use Rattle.text.proofs.Numbers as laws
use Rattle.text.proofs.text.put_interval.Goals as goal

pub put_half-requires : goal.put_half-requires
put_half-requires c = (omega arith, simp length-set (omega arith))

pub shape_of-out : goal.shape_of-out
shape_of-out c =
    ap length c.put_half.ensures.out_after
    ∙ simp (length-sets, length-set) (ap length c.put_half-to.ensures.out_after ∙ simp length-sets)

pub returns : goal.returns
returns c =
    let a = c.args in
    let all = laws.put_both a.bits a.at a.out.now
    (c.put_half-to.ensures.value, c.put_half-to.ensures.out_after)
    (c.put_half.ensures.value, c.put_half.ensures.out_after) in
    record { value = all.0; out_after = all.1 }
