-- `end_at` meets its contract: the end of an item is the number at its place among the ends. Assumes nothing.
use Rattle.plain.specs.Plain.{end_at}
use Rattle.slow_numbers.specs.Numbers.{order_by}
use Rattle.slow_plain.proofs.end_at.Goals as goal

pub returns : goal.returns
unfolding end_at order_by
returns c = c.number_at.ensures
