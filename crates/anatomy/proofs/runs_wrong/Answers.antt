-- `anatomy::runs_wrong` meets its contract: each return by the law of the tests there. Assumes nothing.
use native.Mathlib.Omega.{arith}
use Rattle.anatomy.proofs.NumberTests as laws
use Rattle.anatomy.proofs.runs_wrong.Goals as goal

-- src/lib.rt:104:9
pub returns-then-head-gt-MOST_ITEMS : goal.returns-then-head-gt-MOST_ITEMS
returns-then-head-gt-MOST_ITEMS c = laws.many-runs _ _ c.if-head-gt-MOST_ITEMS.true

-- src/lib.rt:100:1
pub returns : goal.returns
returns c = laws.run_past _ _ (omega arith)
