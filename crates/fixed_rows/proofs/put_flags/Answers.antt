-- `fixed_rows::put_flags` meets its contract: the law of the loops over runs that write an element a row, at the flags. Assumes nothing.
use mathlib.Core.Path.{refl}
use native.Mathlib.Omega.{arith}
use Rattle.source.proofs.AtPlace.{flag-row}
use Rattle.source.proofs.Progress as pieces
use Rattle.source.proofs.Filled as laws
use Rattle.fixed_rows.proofs.put_flags.Goals as goal

pub loop-left-init : goal.loop-left-init
loop-left-init c = laws.filled-start _ _ _ _ _ _ c.args.flags.now c.requires.1

pub shown_run-run-requires : goal.shown_run-run-requires
shown_run-run-requires c =
    let w = c.loop-left.invariant.progress in
    (c.requires.0, pieces.starts-few _ _ _ _ c.requires.0.short w.starts, pieces.progress-piece w (omega arith) c.requires.2)

pub fill_flags-requires : goal.fill_flags-requires
fill_flags-requires c =
    laws.filled-room c.loop-left.invariant (omega arith) refl c.shown_run-run.ensures.0 c.requires.2.rows

pub overflow_add-to : goal.overflow_add-to
overflow_add-to c =
    let w = c.loop-left.invariant in
    omega (arith, pieces.progress-place w.progress (omega arith) refl c.shown_run-run.ensures.0 w.place, c.ranges.n)

pub overflow_sub-left : goal.overflow_sub-left
overflow_sub-left c =
    omega (arith, pieces.progress-most c.loop-left.invariant.progress (omega arith) refl c.shown_run-run.ensures.0)

pub loop-left-smaller : goal.loop-left-smaller
loop-left-smaller c =
    pieces.progress-less c.loop-left.invariant.progress (omega arith) refl c.shown_run-run.ensures.0

pub loop-left-preserved : goal.loop-left-preserved
loop-left-preserved c =
    let a = c.args in
    laws.filled_on c.loop-left.invariant (omega arith) refl c.shown_run-run.ensures.0
    (λ h. flag-row a.s a.marks.now a.items.now _ (c.shown_run-run.ensures.1 h) c.flag_of.ensures)
    c.fill_flags.ensures

pub shape_of-flags : goal.shape_of-flags
shape_of-flags c = laws.filled-long c.loop-left.invariant

pub returns : goal.returns
returns c = laws.filled-end c.loop-left.invariant (omega arith)
