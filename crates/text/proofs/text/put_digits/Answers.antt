-- `put_digits` meets its contract: a number of 64 bits has at most 20 digits, and they are those of `decimal`. Assumes nothing.
use native.Mathlib.Omega.{arith}
use Rattle.text.proofs.Numbers as laws
use Rattle.text.proofs.text.put_digits.Goals as goal

pub copy-requires : goal.copy-requires
copy-requires c =
    let a = c.args in
    let k = laws.few-digits a.n c.decimal-k.result c.decimal-k.ensures.len (omega arith) in
    (omega (arith, c.decimal-k.ensures.in_bounds.1), omega arith)

pub overflow_add-result : goal.overflow_add-result
overflow_add-result c =
    let a = c.args in
    let k = laws.few-digits a.n c.decimal-k.result c.decimal-k.ensures.len (omega arith) in
    omega arith

pub returns : goal.returns
returns c =
    let a = c.args in
    let k = laws.few-digits a.n c.decimal-k.result c.decimal-k.ensures.len (omega arith) in
    let all = laws.digits-put a.n c.decimal-k.result a.at c.decimal-k.new.out a.out.now _ k c.decimal-k.ensures.in_bounds.1 c.decimal-k.ensures.len c.decimal-k.ensures.digits
    c.copy.ensures in
    record { value = all.0; out_after = all.1 }
