-- `anatomy::runs_outside` meets its contract: each return by the law of the tests there. Assumes nothing.
use Rattle.anatomy.proofs.NumberTests as laws
use Rattle.anatomy.proofs.runs_outside.Goals as goal

-- src/lib.rt:59:9
pub returns-then-no_runs : goal.returns-then-no_runs
returns-then-no_runs c = laws.outside-none _ _ _ c.no_runs.ensures c.if-no_runs.true

-- src/lib.rt:63:9
pub returns-then-head-gt-MOST_BYTES : goal.returns-then-head-gt-MOST_BYTES
returns-then-head-gt-MOST_BYTES c =
    laws.outside-far _ _ _ c.no_runs.ensures c.if-no_runs.false c.requires.0 c.if-head-gt-MOST_BYTES.true

-- src/lib.rt:54:1
pub returns : goal.returns
returns c = laws.outside-sum _ _ _ c.no_runs.ensures c.if-no_runs.false
