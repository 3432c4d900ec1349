-- `keys_number` meets its contract: the keys of a sound key block stand behind its counts, one a run. Assumes nothing.
use native.Mathlib.Omega.{arith}
use Rattle.plain.specs.Plain.{plain_number}
use Rattle.dict.specs.Dictionary.{i32}
use Rattle.format.proofs.Sound.{SomeRuns}
use Rattle.format.proofs.KeyBlocks.{keys-there}
use Rattle.slow_numbers.specs.Numbers.{order_by}
use Rattle.slow_rules.proofs.Keys as laws
use Rattle.slow_rules.proofs.keys_number.Goals as goal

pub returns-then-s-eq0 : goal.returns-then-s-eq0
returns-then-s-eq0 c = laws.no_keys _ _ c.if-s-eq0.true

pub number_at-runs-requires : goal.number_at-runs-requires
number_at-runs-requires c = let h = laws.head-there c.requires c.if-s-eq0.false in (omega arith, omega arith)

pub number_at-requires : goal.number_at-requires
number_at-requires c = let h = laws.head-there c.requires c.if-s-eq0.false in (omega arith, omega arith)

pub slice_bounds-keys_known-count : goal.slice_bounds-keys_known-count
unfolding order_by
slice_bounds-keys_known-count c =
    let some : let a = c.args in SomeRuns (plain_number i32) a.s.now c.number_at-runs.result c.number_at.result =
    laws.runs-there c.requires c.if-s-eq0.false c.number_at-runs.ensures.0 c.number_at.ensures.0 in
    (some).room

pub slice_bounds-keys_known-start : goal.slice_bounds-keys_known-start
unfolding order_by
slice_bounds-keys_known-start c =
    let some : let a = c.args in SomeRuns (plain_number i32) a.s.now c.number_at-runs.result c.number_at.result =
    laws.runs-there c.requires c.if-s-eq0.false c.number_at-runs.ensures.0 c.number_at.ensures.0 in
    (some).room

pub keys_known-requires : goal.keys_known-requires
unfolding order_by
keys_known-requires c =
    let some : let a = c.args in SomeRuns (plain_number i32) a.s.now c.number_at-runs.result c.number_at.result =
    laws.runs-there c.requires c.if-s-eq0.false c.number_at-runs.ensures.0 c.number_at.ensures.0 in
    (laws.few-runs c.requires c.if-s-eq0.false c.number_at-runs.ensures.0 c.number_at.ensures.0, keys-there _ _ _ (some).inside)

pub returns-then-keys_known : goal.returns-then-keys_known
unfolding order_by
returns-then-keys_known c =
    laws.all_known _ _ c.number_at-runs.ensures.0 c.number_at.ensures.0 c.keys_known.ensures c.if-keys_known.true

pub returns : goal.returns
unfolding order_by
returns c =
    laws.one-unknown _ _ c.number_at-runs.ensures.0 c.number_at.ensures.0 c.keys_known.ensures c.if-keys_known.false
