-- `needs::rows_bytes` meets its contract: each return by the law of the tests and arms that led there. Assumes nothing.
use Rattle.needs.proofs.Lengths as lengths
use Rattle.needs.proofs.rows_bytes.Goals as goal

pub returns : goal.returns
returns c = let a = c.args in lengths.rows-block a.kind a.nullable a.c c.inner_bytes.ensures.0
