-- `put_half` meets its contract: below half of 2^32 the digits alone, above it the sign and then the digits. Assumes nothing.
use native.Mathlib.Omega.{arith}
use Prim.Native.Nat.{◌+◌, ◌-◌}
use lib.ListN.{length, length-set}
use mir.Syntax.{w32}
use mathlib.Core.Path.{ap, ◌∙◌}
use lib.Seq.{length-sets}
use Rattle.text.proofs.Numbers as laws
use Rattle.text.proofs.text.put_half.Goals as goal

pub returns-then-u-lt2147483648 : goal.returns-then-u-lt2147483648
returns-then-u-lt2147483648 c =
    let a = c.args in
    let all = laws.put_low w32 a.u a.at a.out.now (omega arith) (c.put_digits.ensures.value, c.put_digits.ensures.out_after) in
    record { value = all.0; out_after = all.1 }

pub put_digits-requires-2 : goal.put_digits-requires-2
put_digits-requires-2 c = simp length-set (omega arith)

pub shape_of-out : goal.shape_of-out
shape_of-out c = ap length c.put_digits-2.ensures.out_after ∙ simp (length-sets, length-set)

pub returns : goal.returns
returns c =
    let a = c.args in
    let all = laws.put-high w32 a.u a.at a.out.now
    (4294967295 - a.u + 1)
    (4294967295 - a.u)
    (omega arith)
    (omega arith)
    (omega arith)
    (c.put_digits-2.ensures.value, c.put_digits-2.ensures.out_after) in
    record { value = all.0; out_after = all.1 }
