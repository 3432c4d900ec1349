-- `weigh::weigh_fixed` meets its contract: the law of the loops that weigh, where an item has no ends and no bytes. Assumes nothing.
use Prim.Native.Nat.{◌^◌, ◌≤◌, ◌<◌}
use mathlib.Core.Path.{refl}
use native.Mathlib.Omega.{arith}
use Rattle.source.proofs.AtPlace.{entry-fine}
use Rattle.source.proofs.Progress as pieces
use Rattle.weigh.proofs.RunWeights as laws
use Rattle.weigh.proofs.Weights.{weighing-start, weighing-end}
use Rattle.weigh.proofs.weigh_fixed.Goals as goal

pub loop-left-init : goal.loop-left-init
loop-left-init c = weighing-start _ _ _ _ _ _ _ c.requires.1

pub seen_run-requires : goal.seen_run-requires
seen_run-requires c =
    (c.requires.0, pieces.starts-few _ _ _ _ c.requires.0.short c.loop-left.invariant.progress.starts)

pub returns-in_err-look : goal.returns-in_err-look
returns-in_err-look c =
    rw c.from_residual.ensures (laws.weighs-wrong _ _ _ _ _ _ c.loop-left.invariant (omega arith) c.in_err-look.ensures)

pub overflow_sub-left : goal.overflow_sub-left
overflow_sub-left c =
    let most : (c.in_ok-look.look.rows ≤ c.loop-left.left) × (c.in_ok-look.look.rows < 2 ^ 32) = let w = c.loop-left.invariant in
    pieces.progress-most w.progress (omega arith) refl
    (laws.weighs-piece _ _ _ _ _ _ w (omega arith) c.in_ok-look.ensures) in
    (most).0

pub loop-left-smaller : goal.loop-left-smaller
loop-left-smaller c =
    let w = c.loop-left.invariant in
    pieces.progress-less w.progress (omega arith) refl
    (laws.weighs-piece _ _ _ _ _ _ w (omega arith) c.in_ok-look.ensures)

pub loop-left-preserved : goal.loop-left-preserved
loop-left-preserved c =
    let a = c.args in
    let w = c.loop-left.invariant in
    let l = c.loop-left-test.true in
    let there = (laws.weighs-seen _ _ _ _ _ _ w l c.in_ok-look.ensures).0 in
    laws.weighs-on _ _ _ _ _ _ w l c.in_ok-look.ensures refl
    (entry-fine a.s.kind a.s.items a.items.now _ there (laws.fixed-ends a.s.kind c.requires.2 a.s.items a.items.now))
    (λ h. refl) (laws.fixed-text a.s.kind c.requires.2 a.s.items a.items.now _) (laws.none_more _)

pub returns : goal.returns
returns c = weighing-end c.loop-left.invariant (omega arith)
