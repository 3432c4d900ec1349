-- `weigh::weigh_blobs` meets its contract: the law of the loops that weigh, at blob, whose ends are looked at under a null bit too. Assumes nothing.
use Prim.Native.Nat.{◌^◌, ◌≤◌, ◌<◌}
use mathlib.Core.Path.{refl, ◌∙◌}
use native.Mathlib.Omega.{arith}
use Rattle.encode.specs.Kinds.{blob}
use Rattle.encode.specs.declared.Kind.TheVariants.{Blob}
use Rattle.plain.proofs.Ranges.{blob-least}
use Rattle.source.proofs.Progress as pieces
use Rattle.weigh.proofs.RunWeights as laws
use Rattle.weigh.proofs.Weights.{weighing-start, weighing-small, weighing-end}
use Rattle.weigh.proofs.weigh_blobs.Goals as goal

pub loop-left-init : goal.loop-left-init
loop-left-init c = weighing-start _ _ _ _ _ _ _ c.requires.1

pub seen_run-requires : goal.seen_run-requires
seen_run-requires c =
    (c.requires.0, pieces.starts-few _ _ _ _ c.requires.0.short c.loop-left.invariant.progress.starts)

pub returns-in_err-look : goal.returns-in_err-look
returns-in_err-look c =
    rw c.from_residual.ensures (laws.weighs-wrong _ _ _ _ _ _ c.loop-left.invariant (omega arith) c.in_err-look.ensures)

pub blob_weight-requires : goal.blob_weight-requires
blob_weight-requires c =
    let h = laws.weighs-seen _ _ _ _ _ _ c.loop-left.invariant (omega arith) c.in_ok-look.ensures in
    (h.0, c.requires.0.few, blob-least c.requires.2.1 c.args.s.items c.args.items.now c.requires.0.whole)

pub returns-in_err-len : goal.returns-in_err-len
returns-in_err-len c =
    rw c.from_residual-in_err-len.ensures
    (laws.weighs-bad _ _ _ _ _ _ c.loop-left.invariant (omega arith) c.in_ok-look.ensures c.requires.2.1
    (laws.weighty (Blob c.requires.2.0) c.args.s.items c.args.items.now _
    (c.in_err-len.ensures ∙ laws.blob-weight c.requires.2.0 c.args.s.items c.args.items.now _)))

pub shown_of-slot-requires : goal.shown_of-slot-requires
shown_of-slot-requires c =
    let h = laws.weighs-seen _ _ _ _ _ _ c.loop-left.invariant (omega arith) c.in_ok-look.ensures in
    (c.requires.0, h.0, h.1)

pub heavier-total-requires : goal.heavier-total-requires
heavier-total-requires c =
    let most : (c.in_ok-look.look.rows ≤ c.loop-left.left) × (c.in_ok-look.look.rows < 2 ^ 32) = let w = c.loop-left.invariant in
    pieces.progress-most w.progress (omega arith) refl
    (laws.weighs-piece _ _ _ _ _ _ w (omega arith) c.in_ok-look.ensures) in
    let g = laws.weighty blob c.args.s.items c.args.items.now _ c.in_ok-len.ensures in (
      weighing-small c.loop-left.invariant,
      (most).1,
      laws.blob-few c.args.s.items c.args.items.now _ g.1 c.len_of.ensures.2 c.requires.0.block,
    )

pub overflow_sub-left : goal.overflow_sub-left
overflow_sub-left c =
    let most : (c.in_ok-look.look.rows ≤ c.loop-left.left) × (c.in_ok-look.look.rows < 2 ^ 32) = let w = c.loop-left.invariant in
    pieces.progress-most w.progress (omega arith) refl
    (laws.weighs-piece _ _ _ _ _ _ w (omega arith) c.in_ok-look.ensures) in
    (most).0

pub loop-left-smaller : goal.loop-left-smaller
loop-left-smaller c =
    let w = c.loop-left.invariant in
    pieces.progress-less w.progress (omega arith) refl
    (laws.weighs-piece _ _ _ _ _ _ w (omega arith) c.in_ok-look.ensures)

pub loop-left-preserved : goal.loop-left-preserved
loop-left-preserved c =
    let a = c.args in
    let t = Blob c.requires.2.0 in
    let w = c.in_ok-len.ensures ∙ laws.blob-weight c.requires.2.0 a.s.items a.items.now _ in
    let g = laws.weighty t a.s.items a.items.now _ w in
    laws.weighs-on _ _ _ _ _ _ c.loop-left.invariant c.loop-left-test.true c.in_ok-look.ensures c.requires.2.1
    g.0 c.shown_of-slot.ensures.1 (laws.len-shown t a.s.items a.items.now _ c.shown_of-slot.ensures.0 g.1 c.len_of.ensures.0 c.len_of.ensures.1) c.heavier-total.ensures

pub returns : goal.returns
returns c = weighing-end c.loop-left.invariant (omega arith)
