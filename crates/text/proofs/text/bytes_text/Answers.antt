-- `bytes_text` meets its contract: no bytes, too many for the memory, or the hex digits of all. Assumes nothing.
use native.Mathlib.Omega.{arith}
use Rattle.text.proofs.Laying as laws
use Rattle.text.proofs.text.bytes_text.Goals as goal

pub returns-then-n-eq0 : goal.returns-then-n-eq0
returns-then-n-eq0 c =
    let a = c.args in
    let all = laws.lays-same a.out.now (laws.bytes-none a.bytes.now (omega arith)) (c.lay.ensures.value, c.lay.ensures.out_after) in
    record { value = all.0; out_after = all.1 }

pub returns-then-out-n : goal.returns-then-out-n
returns-then-out-n c =
    let a = c.args in
    let all = laws.bytes-short a.bytes.now a.out.now (omega arith) (omega arith) in
    record { value = all.0; out_after = all.1 }

pub returns : goal.returns
returns c =
    let a = c.args in
    let all = laws.bytes_whole a.bytes.now a.out.now (omega arith) (omega arith) c.put_hex.ensures in
    record { value = all.0; out_after = all.1 }
