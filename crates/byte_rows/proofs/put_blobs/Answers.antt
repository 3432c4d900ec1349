-- `byte_rows::put_blobs` meets its contract: the law of the loops over runs that write texts, at blob, and that of those that write an element a row, at
-- the flags. Assumes nothing.
use mathlib.Core.Path.{refl, ◌∙◌}
use native.Mathlib.Omega.{arith}
use Rattle.plain.proofs.Ranges.{blob-least, blob-good}
use Rattle.source.proofs.AtPlace.{flag-row, blob-text}
use Rattle.source.proofs.Progress as pieces
use Rattle.source.proofs.Filled as flagged
use Rattle.byte_rows.proofs.TextsWritten as written
use Rattle.byte_rows.proofs.RunTexts.{run_room, run_on}
use Rattle.byte_rows.proofs.put_blobs.Goals as goal

-- ---- the needs, in the order of the code
pub loop-left-init : goal.loop-left-init
loop-left-init c = (
  written.texts-start _ _ _ _ _ _ _ c.args.ends.now c.args.bytes.now c.requires.1,
  flagged.filled-start _ _ _ _ _ _ c.args.flags.now c.requires.1,
)

pub shown_run-run-requires : goal.shown_run-run-requires
shown_run-run-requires c =
    let w = c.loop-left.invariant.0.progress in
    (c.requires.0, pieces.starts-few _ _ _ _ c.requires.0.short w.starts, pieces.progress-piece w (omega arith) c.requires.3)

pub blob_of-range-requires : goal.blob_of-range-requires
blob_of-range-requires c =
    let a = c.args in (
      c.shown_run-run.ensures.2,
      c.requires.0.few,
      blob-least c.requires.2.1 a.s.items a.items.now c.requires.0.whole,
      (λ h. blob-good c.requires.2.1 a.s.items a.items.now _ (c.shown_run-run.ensures.3 h)),
    )

pub fill_flags-requires : goal.fill_flags-requires
fill_flags-requires c =
    flagged.filled-room c.loop-left.invariant.1 (omega arith) refl c.shown_run-run.ensures.0 c.requires.4

pub put_text-at-requires : goal.put_text-at-requires
put_text-at-requires c =
    let r = c.blob_of-range in
    let m = run_room _ _ _ _ _ _ _ _ c.loop-left.invariant.0 (omega arith) c.shown_run-run.ensures.0 c.shown_run-run.ensures.1 c.requires.2.1
    r.result.from r.result.len r.ensures.0 (r.ensures.1 ∙ blob-text c.requires.2.0 c.args.s.items c.args.items.now _) c.requires.3 c.requires.5 c.requires.6 in
    (r.ensures.0, c.requires.0.block, m.0, m.1, m.2)

pub overflow_add-to : goal.overflow_add-to
overflow_add-to c =
    let w = c.loop-left.invariant.0 in
    omega (arith, pieces.progress-place w.progress (omega arith) refl c.shown_run-run.ensures.0 w.here, c.ranges.n)

pub overflow_sub-left : goal.overflow_sub-left
overflow_sub-left c =
    omega (arith, pieces.progress-most c.loop-left.invariant.0.progress (omega arith) refl c.shown_run-run.ensures.0)

pub loop-left-smaller : goal.loop-left-smaller
loop-left-smaller c =
    pieces.progress-less c.loop-left.invariant.0.progress (omega arith) refl c.shown_run-run.ensures.0

pub loop-left-preserved : goal.loop-left-preserved
loop-left-preserved c =
    let r = c.blob_of-range in
    let a = c.args in (
      run_on _ _ _ _ _ _ _ _ c.loop-left.invariant.0 (omega arith) c.shown_run-run.ensures.0 c.shown_run-run.ensures.1 c.requires.2.1
          r.result.from r.result.len r.ensures.0 (r.ensures.1 ∙ blob-text c.requires.2.0 a.s.items a.items.now _)
          c.put_text-at.ensures.value c.put_text-at.ensures.ends_after c.put_text-at.ensures.bytes_after,
      flagged.filled_on c.loop-left.invariant.1 (omega arith) refl c.shown_run-run.ensures.0
          (λ m. flag-row a.s a.marks.now a.items.now _ (c.shown_run-run.ensures.1 m) c.flag_of-flag.ensures)
          c.fill_flags.ensures,
    )

pub shape_of-flags : goal.shape_of-flags
shape_of-flags c = flagged.filled-long c.loop-left.invariant.1

pub shape_of-ends : goal.shape_of-ends
shape_of-ends c = written.texts-ends c.loop-left.invariant.0

pub shape_of-bytes : goal.shape_of-bytes
shape_of-bytes c = written.texts-bytes c.loop-left.invariant.0

pub returns : goal.returns
returns c =
    record {
      flags_after = flagged.filled-end c.loop-left.invariant.1 (omega arith);
      ends_after = (written.texts-end c.loop-left.invariant.0 (omega arith)).0;
      bytes_after = (written.texts-end c.loop-left.invariant.0 (omega arith)).1;
    }
