-- `whole` meets its contract. Assumes nothing.
use Rattle.slow_plain.proofs.Pieces.{length-kept, length-broken}
use Rattle.slow_plain.proofs.whole.Goals as goal

pub returns-then-len-due : goal.returns-then-len-due
returns-then-len-due c = let a = c.args in length-kept a.len a.due c.if-len-due.true

pub returns : goal.returns
returns c = let a = c.args in length-broken a.len a.due c.if-len-due.false
