-- `needs::runs_bytes` meets its contract: each return by the law of the tests and arms that led there. Assumes nothing.
use Rattle.needs.proofs.Lengths as lengths
use Rattle.needs.proofs.runs_bytes.Goals as goal

pub run_bytes-requires : goal.run_bytes-requires
run_bytes-requires c = (c.requires.2, c.inner_bytes.ensures.1)

pub returns : goal.returns
returns c = let a = c.args in lengths.runs_block a.kind a.nullable a.c c.inner_bytes.ensures.0 c.run_bytes.ensures.0
