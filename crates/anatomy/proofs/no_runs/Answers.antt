-- `anatomy::no_runs` meets its contract: each return by what the test of the runs found. Assumes nothing.
use Rattle.anatomy.proofs.NumberTests as laws
use Rattle.anatomy.proofs.no_runs.Goals as goal

-- src/lib.rt:48:9
pub returns-then-head-eq0 : goal.returns-then-head-eq0
returns-then-head-eq0 c = laws.counts-none _ c.if-head-eq0.true

-- src/lib.rt:44:1
pub returns : goal.returns
returns c = laws.some_runs _ c.if-head-eq0.false
