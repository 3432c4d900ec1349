-- `sheet_writer::put_file` meets its contract: each return by the law of the tests that led there. Assumes nothing.
use native.Mathlib.Omega.{arith}
use lib.ListN.{length-set}
use Rattle.sheet_writer.proofs.Answers as laws
use Rattle.sheet_writer.proofs.put_file.Goals as goal

pub returns-then-start-bytes : goal.returns-then-start-bytes
returns-then-start-bytes c =
    let a = c.args in
    let p = c.requires in
    let all = laws.too_long a.columns a.numbers.now a.blocks.now a.out.now (omega (arith, p.2, p.3)) (omega (arith, p.2)) c.refused.ensures in
    record { value = all.0; out_after = all.1 }

pub returns-then-out-len : goal.returns-then-out-len
returns-then-out-len c =
    let a = c.args in
    let p = c.requires in
    let all = laws.no_room a.columns a.numbers.now a.blocks.now a.out.now (omega (arith, p.2, p.3)) (omega (arith, p.2)) (omega (arith, p.2)) c.refused-then-out-len.ensures in
    record { value = all.0; out_after = all.1 }

pub put_entries-requires : goal.put_entries-requires
put_entries-requires c =
    (c.requires.1, omega (arith, c.requires.2, length-set c.args.out.now 0 c.args.columns))

pub copy-requires : goal.copy-requires
copy-requires c = (
  omega (arith, c.requires.3),
  omega (arith, c.requires.2, c.put_entries.auto, length-set c.args.out.now 0 c.args.columns),
)

pub shape_of-out : goal.shape_of-out
shape_of-out c =
    omega (arith, c.copy.auto, c.put_entries.auto, length-set c.args.out.now 0 c.args.columns)

pub returns : goal.returns
returns c =
    let a = c.args in
    let p = c.requires in
    let all = laws.put a.columns a.numbers.now a.blocks.now a.out.now (omega (arith, p.2, p.3)) (omega (arith, p.2)) (omega (arith, p.2))
    p.2 c.put_entries.ensures c.copy.ensures in
    record { value = all.0; out_after = all.1 }
