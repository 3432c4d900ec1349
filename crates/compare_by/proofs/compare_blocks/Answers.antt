-- `compare_blocks` meets its contract: what is handed over are the files' descriptors and blocks. Assumes nothing.
use Rattle.compare_by.proofs.Files as laws
use Rattle.compare_by.proofs.compare_blocks.Goals as goal

pub returns : goal.returns
returns c =
    let a = c.args in
    let all = laws.blocks-compared
    a.first.now
    a.second.now
    a.firsts.now
    a.lasts.now
    c.descriptor_in-a.ensures
    c.block_of-x.ensures
    c.descriptor_in-b.ensures
    c.block_of-y.ensures
    (c.compare.ensures.value, (c.compare.ensures.firsts_after, c.compare.ensures.lasts_after)) in
    record { value = all.0; firsts_after = all.1.0; lasts_after = all.1.1 }
