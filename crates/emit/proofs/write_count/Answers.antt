-- `write_count` meets its contract: there is room, so the count's spelling is written. Assumes nothing.
use native.Mathlib.Omega.{arith}
use Rattle.varint.specs.Varint.{spelling}
use Rattle.emit.proofs.Writing as laws
use Rattle.emit.proofs.write_count.Goals as goal

pub returns-in_default : goal.returns-in_default
returns-in_default c =
    absurd (laws.laid-never (spelling c.args.value) c.args.out.now c.args.at (omega arith) c.encode_u32.ensures.0 c.in_default.is)

pub overflow_add-result : goal.overflow_add-result
overflow_add-result c =
    let l = laws.laid-length (spelling c.args.value) c.args.out.now c.args.at (omega arith) c.encode_u32.ensures.0 c.in-Some.is in
    omega arith

pub returns : goal.returns
returns c =
    let all = laws.laid-count (spelling c.args.value) c.args.out.now c.args.at (omega arith) c.encode_u32.ensures.0 c.in-Some.is c.encode_u32.ensures.1 in
    record { value = all.0; out_after = all.1 }
