-- `anatomy::key_parts` meets its contract: each return by whether there are runs. Assumes nothing.
use native.Mathlib.Omega.{arith}
use mathlib.Core.Path.{sym, ◌∙◌}
use Rattle.anatomy.proofs.PartCases as laws
use Rattle.anatomy.proofs.key_parts.Goals as goal

-- src/lib.rt:253:9
pub returns-then-no_runs : goal.returns-then-no_runs
returns-then-no_runs c = laws.keys_none _ _ _ c.no_runs.ensures c.if-no_runs.true

-- src/lib.rt:260:17
pub overflow_add-start : goal.overflow_add-start
overflow_add-start c =
    let f = c.requires.1 (sym c.no_runs.ensures ∙ c.if-no_runs.false) in
    omega arith

-- src/lib.rt:238:1
pub returns : goal.returns
returns c = laws.keys-parts _ _ _ c.no_runs.ensures c.if-no_runs.false
