-- `slots::given_len` meets its contract, by the two rows there are. Assumes nothing.
use Rattle.plain.specs.Rows.{bytes_in}
use Rattle.slots.proofs.given_len.Goals as goal

pub returns-then-present : goal.returns-then-present
unfolding bytes_in
returns-then-present c = rw c.if-present.true

pub returns : goal.returns
unfolding bytes_in
returns c = rw c.if-present.false
