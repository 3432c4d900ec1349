-- `anatomy::run_parts` meets its contract: each return by whether there are runs. Assumes nothing.
use native.Mathlib.Omega.{arith}
use mathlib.Core.Path.{sym, ◌∙◌}
use Rattle.anatomy.proofs.PartCases as laws
use Rattle.anatomy.proofs.run_parts.Goals as goal

-- src/lib.rt:183:9
pub returns-then-no_runs : goal.returns-then-no_runs
returns-then-no_runs c = laws.runs_none _ _ _ c.no_runs.ensures c.if-no_runs.true

-- src/lib.rt:190:15
pub overflow_add-end : goal.overflow_add-end
overflow_add-end c =
    let f = c.requires (sym c.no_runs.ensures ∙ c.if-no_runs.false) in
    omega arith

-- src/lib.rt:170:1
pub returns : goal.returns
returns c = laws.runs-parts _ _ _ c.no_runs.ensures c.if-no_runs.false
