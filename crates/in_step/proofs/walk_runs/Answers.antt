-- `in_step::walk_runs` meets its contract. The loop's invariant is `Walking`; its measure is what is left to compare, and of each side what is left to take.
-- Assumes nothing.
use native.Mathlib.Omega.{arith}
use Rattle.in_step.proofs.Sides as sides
use Rattle.in_step.proofs.Walking as laws
use Rattle.in_step.proofs.walk_runs.Goals as goal

pub loop-left-init : goal.loop-left-init
loop-left-init c =
    let p = c.requires in
    laws.walking_start _ _ _ _ _ _ _ _ _ _ _ p.0 p.1 c.start-mark.ensures c.none_yet-x.ensures c.none_yet-y.ensures

-- ---- the next run of the first side
pub shown_run-x-requires : goal.shown_run-x-requires
shown_run-x-requires c =
    let w = c.requires.0 in
    let f = c.loop-left.invariant.a-side in
    (w.ready, sides.side-run f (omega arith) (omega arith) w.ready.short, sides.side-good f (omega arith) (omega arith) w)

pub loop-left-smaller-then-x-eq0 : goal.loop-left-smaller-then-x-eq0
loop-left-smaller-then-x-eq0 c =
    let f = c.loop-left.invariant.a-side in
    omega (arith, sides.side-less f (omega arith) (omega arith) c.shown_run-x.result c.shown_run-x.ensures.0)

pub loop-left-preserved-then-x-eq0 : goal.loop-left-preserved-then-x-eq0
loop-left-preserved-then-x-eq0 c =
    let f = c.loop-left.invariant in
    let e = c.shown_run-x.ensures in
    laws.with-a _ _ _ _ _ _ _ _ _ _ _ f (sides.side-next f.a-side (omega arith) (omega arith) c.shown_run-x.result e.0 e.1 e.2 e.3)

-- ---- and of the second
pub shown_run-y-requires : goal.shown_run-y-requires
shown_run-y-requires c =
    let w = c.requires.1 in
    let f = c.loop-left.invariant.b-side in
    (w.ready, sides.side-run f (omega arith) (omega arith) w.ready.short, sides.side-good f (omega arith) (omega arith) w)

pub loop-left-smaller-then-y-eq0 : goal.loop-left-smaller-then-y-eq0
loop-left-smaller-then-y-eq0 c =
    let f = c.loop-left.invariant.b-side in
    sides.second-less _ _ _ _ _ (omega arith) (sides.side-less f (omega arith) (omega arith) c.shown_run-y.result c.shown_run-y.ensures.0)

pub loop-left-preserved-then-y-eq0 : goal.loop-left-preserved-then-y-eq0
loop-left-preserved-then-y-eq0 c =
    let f = c.loop-left.invariant in
    let e = c.shown_run-y.ensures in
    laws.with-b _ _ _ _ _ _ _ _ _ _ _ f (sides.side-next f.b-side (omega arith) (omega arith) c.shown_run-y.result e.0 e.1 e.2 e.3)

-- ---- rows of both, as many as are left of the shorter run
pub same_slot-same-requires : goal.same_slot-same-requires
same_slot-same-requires c =
    let p = c.requires in
    let f = c.loop-left.invariant in
    (laws.a-stored _ _ _ _ _ _ _ _ _ _ _ f p.0, laws.b-stored _ _ _ _ _ _ _ _ _ _ _ f p.1 p.2)

pub add-mark-requires : goal.add-mark-requires
add-mark-requires c =
    let f = c.loop-left.invariant in
    (f.recorded.counted, omega (arith, laws.walking-fits _ _ _ _ _ _ _ _ _ _ _ f, c.least-m.ensures, sides.side-few f.a-side, c.ranges.n))

pub overflow_sub-x : goal.overflow_sub-x
overflow_sub-x c =
    omega (arith, c.least-m.ensures)

pub overflow_sub-y : goal.overflow_sub-y
overflow_sub-y c =
    omega (arith, c.least-m.ensures)

pub overflow_sub-left : goal.overflow_sub-left
overflow_sub-left c =
    let f = c.loop-left.invariant in
    omega (arith, c.least-m.ensures, sides.side-few f.a-side)

pub loop-left-smaller : goal.loop-left-smaller
loop-left-smaller c =
    let f = c.loop-left.invariant in
    sides.both-less _ _ _ _ _ _ (omega (arith, c.least-m.ensures)) (omega (arith, c.least-m.ensures)) (omega (arith, c.least-m.ensures)) (sides.side-few f.a-side) (sides.side-few f.b-side)

pub loop-left-preserved : goal.loop-left-preserved
loop-left-preserved c =
    let f = c.loop-left.invariant in
    laws.walking-step _ _ _ _ _ _ _ _ _ _ _ f (omega (arith, c.least-m.ensures)) (omega (arith, c.least-m.ensures)) (omega (arith, c.least-m.ensures))
    (laws.items-told _ _ _ _ _ _ _ _ _ _ _ f c.requires.2 c.same_slot-same.ensures)
    (omega (arith, laws.walking-fits _ _ _ _ _ _ _ _ _ _ _ f, c.least-m.ensures, sides.side-few f.a-side, c.ranges.n))
    c.add-mark.ensures.value c.add-mark.ensures.firsts_after c.add-mark.ensures.lasts_after

pub shape_of-firsts : goal.shape_of-firsts
shape_of-firsts c = (laws.walking-long _ _ _ _ _ _ _ _ _ _ _ c.loop-left.invariant).0

pub shape_of-lasts : goal.shape_of-lasts
shape_of-lasts c = (laws.walking-long _ _ _ _ _ _ _ _ _ _ _ c.loop-left.invariant).1

pub returns : goal.returns
returns c = laws.walking-end _ _ _ _ _ _ _ _ _ _ _ c.loop-left.invariant (omega arith)
