-- `dict::entries_in` meets its contract: the four bytes of the item are those of the head. Assumes nothing.
use borrow.Author.Rules.{rules}
use Rattle.dict.proofs.Head as laws
use Rattle.dict.proofs.entries_in.Goals as goal

pub returns : goal.returns
returns c = search (rules, laws.entries-number)
