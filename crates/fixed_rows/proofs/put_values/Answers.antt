-- `fixed_rows::put_values` meets its contract: the law of the loops over runs that write an element a row, at the values. Assumes nothing.
use mathlib.Core.Path.{refl}
use borrow.Author.Rules.{rules}
use native.Mathlib.Omega.{arith}
use Rattle.plain.proofs.Ranges.{least-found}
use Rattle.source.proofs.Progress as pieces
use Rattle.source.proofs.Filled as laws
use Rattle.fixed_rows.proofs.Values.{values-on}
use Rattle.fixed_rows.proofs.put_values.Goals as goal

pub loop-left-init : goal.loop-left-init
loop-left-init c = laws.filled-start _ _ _ _ _ _ c.args.values.now c.requires.1

pub shown_run-run-requires : goal.shown_run-run-requires
shown_run-run-requires c =
    let w = c.loop-left.invariant.progress in
    (c.requires.0, pieces.starts-few _ _ _ _ c.requires.0.short w.starts, pieces.progress-piece w (omega arith) c.requires.3)

pub value_of-value-requires : goal.value_of-value-requires
value_of-value-requires c =
    (c.shown_run-run.ensures.2, c.requires.0.few, least-found c.requires.2 c.args.s.items c.args.items.now c.requires.0.whole)

pub fill-requires : goal.fill-requires
fill-requires c =
    laws.filled-room c.loop-left.invariant (omega arith) refl c.shown_run-run.ensures.0 c.requires.3.rows

pub overflow_add-to : goal.overflow_add-to
overflow_add-to c =
    let w = c.loop-left.invariant in
    omega (arith, pieces.progress-place w.progress (omega arith) refl c.shown_run-run.ensures.0 w.place, c.ranges.n)

pub overflow_sub-left : goal.overflow_sub-left
overflow_sub-left c =
    omega (arith, pieces.progress-most c.loop-left.invariant.progress (omega arith) refl c.shown_run-run.ensures.0)

pub loop-left-smaller : goal.loop-left-smaller
loop-left-smaller c =
    pieces.progress-less c.loop-left.invariant.progress (omega arith) refl c.shown_run-run.ensures.0

pub loop-left-preserved : goal.loop-left-preserved
loop-left-preserved c =
    values-on _ _ _ _ _ _ _ c.requires.2 c.loop-left.invariant (omega arith) c.shown_run-run.ensures.0 c.shown_run-run.ensures.1
    (search rules) c.value_of-value.ensures c.fill.ensures

pub shape_of-values : goal.shape_of-values
shape_of-values c = laws.filled-long c.loop-left.invariant

pub returns : goal.returns
returns c = laws.filled-end c.loop-left.invariant (omega arith)
