-- `sheet_writer::write` meets its contract: each return by the law of the tests that led there. Assumes nothing.
use mathlib.Core.Path.{ap}
use Rattle.limits.specs.Refusals.{by_number}
use native.Mathlib.Omega.{arith}
use Rattle.sheet_writer.proofs.Files.{blocks-held}
use Rattle.sheet_writer.proofs.Answers as laws
use Rattle.sheet_writer.proofs.write.Goals as goal

pub returns-then-columns-gt-MOST_COLUMNS : goal.returns-then-columns-gt-MOST_COLUMNS
returns-then-columns-gt-MOST_COLUMNS c =
    let all = laws.too_many _ _ _ (omega arith) c.refused.ensures in
    record { value = all.0; out_after = all.1 }

pub returns-then-numbers-ne0 : goal.returns-then-numbers-ne0
returns-then-numbers-ne0 c =
    let all = laws.list-cut _ _ _ (omega arith) (omega arith) c.refused-then-numbers-ne0.ensures in
    record { value = all.0; out_after = all.1 }

pub put_file-requires : goal.put_file-requires
put_file-requires c =
    let a = c.args in
    let t = laws.bytes-told _ _ c.sum.ensures (ap by_number c.in-Ok.is) in
    (omega arith, omega arith, t.1, omega (arith, t.1, blocks-held _ a.numbers.now a.blocks.now t.0))

pub shape_of-out : goal.shape_of-out
shape_of-out c = c.put_file.auto.out

pub returns-in-Ok : goal.returns-in-Ok
returns-in-Ok c =
    let a = c.args in
    let t = laws.bytes-told _ _ c.sum.ensures (ap by_number c.in-Ok.is) in
    let all = laws.done a.numbers.now a.blocks.now a.out.now (omega arith) (omega arith) t.0 (c.put_file.ensures.value, c.put_file.ensures.out_after) in
    record { value = all.0; out_after = all.1 }

pub returns-in-Err : goal.returns-in-Err
returns-in-Err c =
    let t = laws.bad-told _ _ c.sum.ensures (ap by_number c.in-Err.is) in
    let all = laws.bad-block _ _ _ (omega arith) (omega arith) t.0 t.1 c.refused-in-Err.ensures in
    record { value = all.0; out_after = all.1 }
