-- `weigh::weigh_chars` meets its contract: the law of the loops that weigh, at char, which has no ends. Assumes nothing.
use Prim.Native.Nat.{◌^◌, ◌≤◌, ◌<◌}
use mathlib.Core.Path.{refl}
use native.Mathlib.Omega.{arith}
use Rattle.encode.specs.declared.Kind.TheVariants.{Char}
use Rattle.plain.proofs.Ranges.{least-found}
use Rattle.source.proofs.AtPlace.{part_length, entry-fine}
use Rattle.source.proofs.Progress as pieces
use Rattle.weigh.proofs.RunWeights as laws
use Rattle.weigh.proofs.Weights.{weighing-start, weighing-small, weighing-end}
use Rattle.weigh.proofs.weigh_chars.Goals as goal

pub loop-left-init : goal.loop-left-init
loop-left-init c = weighing-start _ _ _ _ _ _ _ c.requires.1

pub seen_run-requires : goal.seen_run-requires
seen_run-requires c =
    (c.requires.0, pieces.starts-few _ _ _ _ c.requires.0.short c.loop-left.invariant.progress.starts)

pub returns-in_err-look : goal.returns-in_err-look
returns-in_err-look c =
    rw c.from_residual.ensures (laws.weighs-wrong _ _ _ _ _ _ c.loop-left.invariant (omega arith) c.in_err-look.ensures)

pub shown_of-slot-requires : goal.shown_of-slot-requires
shown_of-slot-requires c =
    let h = laws.weighs-seen _ _ _ _ _ _ c.loop-left.invariant (omega arith) c.in_ok-look.ensures in
    (c.requires.0, h.0, h.1)

pub char_of-range-requires : goal.char_of-range-requires
char_of-range-requires c =
    let h = laws.weighs-seen _ _ _ _ _ _ c.loop-left.invariant (omega arith) c.in_ok-look.ensures in
    (laws.shown-few _ c.shown_of-slot.ensures.0 h.0, c.requires.0.few, c.requires.3, least-found c.requires.2 c.args.s.items c.args.items.now c.requires.0.whole)

pub heavier-total-requires : goal.heavier-total-requires
heavier-total-requires c =
    let most : (c.in_ok-look.look.rows ≤ c.loop-left.left) × (c.in_ok-look.look.rows < 2 ^ 32) = let w = c.loop-left.invariant in
    pieces.progress-most w.progress (omega arith) refl
    (laws.weighs-piece _ _ _ _ _ _ w (omega arith) c.in_ok-look.ensures) in
    (weighing-small c.loop-left.invariant, (most).1, omega (arith, c.char_of-range.ensures.0, c.requires.0.block))

pub overflow_sub-left : goal.overflow_sub-left
overflow_sub-left c =
    let most : (c.in_ok-look.look.rows ≤ c.loop-left.left) × (c.in_ok-look.look.rows < 2 ^ 32) = let w = c.loop-left.invariant in
    pieces.progress-most w.progress (omega arith) refl
    (laws.weighs-piece _ _ _ _ _ _ w (omega arith) c.in_ok-look.ensures) in
    (most).0

pub loop-left-smaller : goal.loop-left-smaller
loop-left-smaller c =
    let w = c.loop-left.invariant in
    pieces.progress-less w.progress (omega arith) refl
    (laws.weighs-piece _ _ _ _ _ _ w (omega arith) c.in_ok-look.ensures)

pub loop-left-preserved : goal.loop-left-preserved
loop-left-preserved c =
    let a = c.args in
    let w = c.loop-left.invariant in
    let l = c.loop-left-test.true in
    let r = c.char_of-range in
    let there = (laws.weighs-seen _ _ _ _ _ _ w l c.in_ok-look.ensures).0 in
    laws.weighs-on _ _ _ _ _ _ w l c.in_ok-look.ensures c.requires.2
    (entry-fine (Char a.w) a.s.items a.items.now _ there (laws.char-ends a.w a.s.items a.items.now))
    c.shown_of-slot.ensures.1 (part_length a.items.now r.result.from r.result.len r.ensures.0 r.ensures.1)
    c.heavier-total.ensures

pub returns : goal.returns
returns c = weighing-end c.loop-left.invariant (omega arith)
