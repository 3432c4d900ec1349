-- `runs_from` meets its contract: each return by the law of the rule that it stands for. Assumes nothing.
use native.Mathlib.Omega.{arith}
use Rattle.arriving.proofs.Beginnings as laws
use Rattle.arriving.proofs.runs_from.Goals as goal

pub returns-then-n-eq0 : goal.returns-then-n-eq0
returns-then-n-eq0 c = laws.no_rows _ _ _ _ _ _ c.if-size-eq0.true c.if-n-eq0.true c.no_runs.ensures

pub returns-then-size-eq0 : goal.returns-then-size-eq0
returns-then-size-eq0 c = laws.lost-rows _ _ _ _ _ _ c.if-size-eq0.true c.if-n-eq0.false

pub returns-then-size-lt8 : goal.returns-then-size-lt8
returns-then-size-lt8 c = laws.no-head _ _ _ _ _ _ c.if-size-eq0.false c.if-size-lt8.true

pub returns : goal.returns
returns c = laws.then-head _ _ _ _ _ _ c.if-size-eq0.false (omega arith)
