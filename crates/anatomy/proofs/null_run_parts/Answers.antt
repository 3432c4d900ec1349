-- `anatomy::null_run_parts` meets its contract: each return by whether there are runs. Assumes nothing.
use native.Mathlib.Omega.{arith}
use mathlib.Core.Path.{sym, ◌∙◌}
use Rattle.anatomy.proofs.PartCases as laws
use Rattle.anatomy.proofs.null_run_parts.Goals as goal

-- src/lib.rt:213:9
pub returns-then-no_runs : goal.returns-then-no_runs
returns-then-no_runs c = laws.null-runs-none _ _ _ c.no_runs.ensures c.if-no_runs.true

-- src/lib.rt:220:17
pub overflow_add-start : goal.overflow_add-start
overflow_add-start c =
    let f = c.requires.2 (sym c.no_runs.ensures ∙ c.if-no_runs.false) in
    omega arith

-- src/lib.rt:222:15
pub overflow_sub-end : goal.overflow_sub-end
overflow_sub-end c =
    let f = c.requires.2 (sym c.no_runs.ensures ∙ c.if-no_runs.false) in
    omega arith

-- src/lib.rt:200:1
pub returns : goal.returns
returns c =
    laws.null-runs-parts _ _ _ c.no_runs.ensures c.if-no_runs.false c.bitmap_len-bitmap.ensures.0
