-- `descriptor_at` meets its contract: the eight bytes of the item are those at the place. Assumes nothing.
use Rattle.descriptor.specs.Descriptor.{descriptor_of}
use Rattle.sheet.proofs.Entries.{read_as}
use Rattle.night_by.proofs.descriptor_at.Goals as goal

pub returns : goal.returns
returns c =
    let a = c.args in
    read_as descriptor_of 8 a.at a.file.now c.requires c.item.ensures c.unpack.ensures
