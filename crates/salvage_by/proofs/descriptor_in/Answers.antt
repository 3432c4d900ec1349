-- `descriptor_in` meets its contract: the eight bytes of the item are the file's first. Assumes nothing.
use Rattle.salvage_by.proofs.Files as laws
use Rattle.salvage_by.proofs.descriptor_in.Goals as goal

pub returns : goal.returns
returns c =
    laws.descriptor-read c.args.file.now c.requires c.item.ensures c.unpack.ensures
