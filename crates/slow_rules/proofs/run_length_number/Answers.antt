-- `run_length_number` meets its contract: each return by the law of the rules tested so far. Assumes nothing.
use mathlib.Core.Path.{refl, ◌∙◌}
use native.Mathlib.Omega.{arith}
use Rattle.slow_numbers.specs.Numbers.{order_by}
use Rattle.rle.proofs.Opening as heads
use Rattle.limits.proofs.Refused.{refusal-some}
use Rattle.slow_plain.proofs.Refused.{passed-on}
use Rattle.slow_rules.proofs.Runs as laws
use Rattle.slow_rules.proofs.run_length_number.Goals as goal

pub returns-then-s-eq0 : goal.returns-then-s-eq0
returns-then-s-eq0 c = laws.no_block _ _ _ c.if-s-eq0.true c.no_bytes.ensures

pub returns-then-s-lt8 : goal.returns-then-s-lt8
returns-then-s-lt8 c = laws.head-refused _ _ _ (heads.too_short _ _ c.if-s-eq0.false (omega arith))

pub returns-then-runs-gt-MOST_ITEMS : goal.returns-then-runs-gt-MOST_ITEMS
unfolding order_by
returns-then-runs-gt-MOST_ITEMS c =
    laws.head-refused _ _ _
    (heads.too_many _ _ c.if-s-eq0.false (omega arith) c.number_at-runs.ensures.0 (omega arith))

pub returns-then-runs-eq0 : goal.returns-then-runs-eq0
unfolding order_by
returns-then-runs-eq0 c =
    laws.head-refused _ _ _
    (heads.no-runs _ _ c.if-s-eq0.false (omega arith) c.number_at-runs.ensures.0 (omega arith) (omega arith))

pub returns-then-s-end : goal.returns-then-s-end
unfolding order_by
returns-then-s-end c =
    laws.head-refused _ _ _
    (heads.cut_short _ _ c.if-s-eq0.false (omega arith) c.number_at-runs.ensures.0 (omega arith)
    c.if-runs-eq0.false c.number_at.ensures.0 (omega arith))

pub returns-in_err-counts_number : goal.returns-in_err-counts_number
unfolding order_by
returns-in_err-counts_number c =
    passed-on _ _ c.from_residual.ensures.1
    ∙ laws.counts-wrong _ _ _ c.if-s-eq0.false (omega arith) c.number_at-runs.ensures.0 (omega arith)
    c.if-runs-eq0.false c.number_at.ensures.0 (omega arith)
    c.in_err-counts_number.ensures (refusal-some _)

pub returns : goal.returns
unfolding order_by
returns c =
    laws.then-inner _ _ _ c.if-s-eq0.false (omega arith) c.number_at-runs.ensures.0 (omega arith)
    c.if-runs-eq0.false c.number_at.ensures.0 (omega arith) c.in_ok-counts_number.ensures refl c.inner_number.ensures
