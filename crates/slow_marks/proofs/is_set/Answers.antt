-- `is_set` meets its contract, by the definition of a bit. Assumes nothing.
use borrow.Author.Rules.{rules}
use Rattle.nullable.specs.Nullable.{bit_at}
use Rattle.slow_marks.proofs.is_set.Goals as goal

pub returns : goal.returns
unfolding bit_at
returns c = search rules
