-- `sheet::four` meets its contract: the four bytes of the item are those at the place. Assumes nothing.
use Rattle.encode.specs.Bytes.{high-first, number_of}
use Rattle.sheet.proofs.Entries as laws
use Rattle.sheet.proofs.four.Goals as goal

pub returns : goal.returns
returns c =
    let a = c.args in
    (laws.read_as (number_of high-first) 4 a.at a.file.now c.requires c.item.ensures c.high.ensures.0, c.high.ensures.1)
