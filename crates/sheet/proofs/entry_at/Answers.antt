-- `sheet::entry_at` meets its contract: what is read at the three places is what the entry has there. Assumes nothing.
use Rattle.sheet.proofs.Entries as laws
use Rattle.sheet.proofs.entry_at.Goals as goal

pub returns : goal.returns
returns c =
    let a = c.args in
    record {
      descriptor_value = (
        laws.descriptor-read a.file.now a.j c.descriptor_at.ensures,
        laws.offset_read a.file.now a.j c.four.ensures.0,
        laws.length-read a.file.now a.j c.four-2.ensures.0,
      );
      from_bound = (c.four.ensures.1, c.four-2.ensures.1);
    }
