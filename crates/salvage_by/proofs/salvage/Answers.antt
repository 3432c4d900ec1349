-- `salvage` meets its contract: each return by the law of the tests that led there. Assumes nothing.
use borrow.Author.Rules.{rules}
use native.Mathlib.Omega.{arith}
use Rattle.salvage_by.proofs.Files as laws
use Rattle.salvage_by.proofs.salvage.Goals as goal

pub returns-then-file-lt8 : goal.returns-then-file-lt8
returns-then-file-lt8 c =
    let a = c.args in
    let all = laws.no-descriptor a.file.now a.firsts.now a.lasts.now a.out.now (omega arith) c.none.ensures in
    record { value = all.0; firsts_after = all.1.0; lasts_after = all.1.1.0; out_after = all.1.1.1.0; ranges_in_bounds = all.1.1.1.1 }

pub returns-then-file-gt-MOST_INPUT : goal.returns-then-file-gt-MOST_INPUT
returns-then-file-gt-MOST_INPUT c =
    let a = c.args in
    let all = laws.too_long a.file.now a.firsts.now a.lasts.now a.out.now (omega arith) (omega arith) c.none-then-file-gt-MOST_INPUT.ensures in
    record { value = all.0; firsts_after = all.1.0; lasts_after = all.1.1.0; out_after = all.1.1.1.0; ranges_in_bounds = all.1.1.1.1 }

pub returns : goal.returns
returns c =
    let a = c.args in
    let all = laws.file-salvaged
    a.file.now
    a.firsts.now
    a.lasts.now
    a.out.now
    (omega arith)
    (omega arith)
    c.descriptor_in-d.ensures
    c.block_of-block.ensures
    (search rules)
    (search rules)
    (c.salvage.ensures.value, (c.salvage.ensures.firsts_after, (c.salvage.ensures.lasts_after, c.salvage.ensures.out_after))) in
    record { value = all.0; firsts_after = all.1.0; lasts_after = all.1.1.0; out_after = all.1.1.1.0; ranges_in_bounds = all.1.1.1.1 }
