-- `rle::find_head` meets its contract: each return by the law of the rules tested so far. Assumes nothing.
use mathlib.Core.Path.{ap}
use Rattle.std.proofs.lemmas.Result.{err_from_is_err_and}
use Rattle.limits.specs.Refusals.{by_number}
use native.Mathlib.Omega.{arith}
use Rattle.rle.proofs.Opening as laws
use Rattle.rle.proofs.find_head.Goals as goal

pub returns-then-rows-eq0 : goal.returns-then-rows-eq0
returns-then-rows-eq0 c = laws.no_bytes _ _ (omega arith) (omega arith)

pub returns-then-n-eq0 : goal.returns-then-n-eq0
returns-then-n-eq0 c = laws.no_rows _ _ (omega arith) c.if-rows-eq0.false

pub returns-then-n-lt8 : goal.returns-then-n-lt8
returns-then-n-lt8 c = laws.too_short _ _ c.if-n-eq0.false (omega arith)

pub returns-then-runs-gt-MOST_ITEMS : goal.returns-then-runs-gt-MOST_ITEMS
returns-then-runs-gt-MOST_ITEMS c = laws.too_many _ _ c.if-n-eq0.false (omega arith) c.u32_at-runs.ensures.0 (omega arith)

pub returns-then-runs-eq0 : goal.returns-then-runs-eq0
returns-then-runs-eq0 c =
    laws.no-runs _ _ c.if-n-eq0.false (omega arith) c.u32_at-runs.ensures.0 (omega arith) (omega arith)

pub returns-then-n-end : goal.returns-then-n-end
returns-then-n-end c =
    laws.cut_short
    _
    _
    c.if-n-eq0.false
    (omega arith)
    c.u32_at-runs.ensures.0
    (omega arith)
    c.if-runs-eq0.false
    c.u32_at-counts.ensures.0
    (omega arith)

pub returns-in_err-total : goal.returns-in_err-total
returns-in_err-total c =
    let p = err_from_is_err_and c.from_residual.result c.from_residual.ensures.1 in
    rw (p.1, p.2)
    (laws.walk_refused
    _
    _
    c.if-n-eq0.false
    (omega arith)
    c.u32_at-runs.ensures.0
    (omega arith)
    c.if-runs-eq0.false
    c.u32_at-counts.ensures.0
    (omega arith)
    c.walk.ensures
    (ap by_number c.in_err-total.was))

pub returns-then-total-rows : goal.returns-then-total-rows
returns-then-total-rows c =
    laws.sum-right
    _
    _
    c.if-n-eq0.false
    (omega arith)
    c.u32_at-runs.ensures.0
    (omega arith)
    c.if-runs-eq0.false
    c.u32_at-counts.ensures.0
    (omega arith)
    c.walk.ensures
    (ap by_number c.in_ok-total.was)
    (omega arith)

pub returns-else-total-rows : goal.returns-else-total-rows
returns-else-total-rows c =
    laws.sum-wrong
    _
    _
    c.if-n-eq0.false
    (omega arith)
    c.u32_at-runs.ensures.0
    (omega arith)
    c.if-runs-eq0.false
    c.u32_at-counts.ensures.0
    (omega arith)
    c.walk.ensures
    (ap by_number c.in_ok-total.was)
    c.if-total-rows.false
