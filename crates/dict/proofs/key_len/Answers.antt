-- `dict::key_len` meets its contract: the eight bytes of the item are those of the head. Assumes nothing.
use borrow.Author.Rules.{rules}
use Rattle.dict.proofs.Head as laws
use Rattle.dict.proofs.key_len.Goals as goal

pub returns : goal.returns
returns c = search (rules, laws.key-length)
