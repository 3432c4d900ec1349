-- `sheet_writer::put_entry` meets its contract: its three parts lie one after the other. Assumes nothing.
use Rattle.sheet_writer.proofs.Loops as laws
use Rattle.sheet_writer.proofs.put_entry.Goals as goal

pub returns : goal.returns
returns c =
    let a = c.args in
    laws.entry-put a.numbers.now a.place a.at a.out.now a.to
    c.descriptor_at-d.ensures c.pack.ensures c.high_first.ensures c.high_first-2.ensures
    c.put.ensures c.put-2.ensures c.put-3.ensures
