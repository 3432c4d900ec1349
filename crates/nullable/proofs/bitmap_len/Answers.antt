-- `nullable::bitmap_len` meets its contract, by the definition of the length. Assumes nothing.
use borrow.Author.Rules.{rules}
use Rattle.nullable.specs.Nullable.{bitmap_length}
use Rattle.nullable.proofs.bitmap_len.Goals as goal

pub returns : goal.returns
unfolding bitmap_length
returns c = search rules
