-- `repaired::mark_lost` meets its contract. The loop's invariant is `Marking`; its measure is what is left to mark, and what is left to take. Assumes nothing.
use native.Mathlib.Omega.{arith}
use mathlib.Core.List.{[]}
use mathlib.Core.Path.{refl}
use Rattle.repaired.proofs.Ahead as ahead
use Rattle.repaired.proofs.Merging as merging
use Rattle.repaired.proofs.Marking as laws
use Rattle.repaired.proofs.mark_lost.Goals as goal

pub loop-left-init : goal.loop-left-init
loop-left-init c =
    let p = c.requires in
    laws.marking-start _ _ _ _ _ _ _ p.1 c.start-mark.ensures c.none_yet-x.ensures

-- ---- the next run
pub shown_run-x-requires : goal.shown_run-x-requires
shown_run-x-requires c =
    ahead.ahead-asks c.loop-left.invariant.ahead (omega arith) (omega arith) c.keys_by-source.ensures c.requires.0 []

pub loop-left-smaller-then-x-eq0 : goal.loop-left-smaller-then-x-eq0
loop-left-smaller-then-x-eq0 c =
    merging.next-less _ _ _ _ _ (omega arith)
    (ahead.ahead-less c.loop-left.invariant.ahead (omega arith) (omega arith) c.keys_by-source.ensures [] (c.shown_run-x.ensures.0, c.shown_run-x.ensures.1))

pub loop-left-preserved-then-x-eq0 : goal.loop-left-preserved-then-x-eq0
loop-left-preserved-then-x-eq0 c =
    laws.marking-next _ _ _ _ _ _ _ c.loop-left.invariant (omega arith) (omega arith) c.keys_by-source.ensures [] (c.shown_run-x.ensures.0, c.shown_run-x.ensures.1)

-- ---- whether it is lost
pub overflow_sub-x : goal.overflow_sub-x
overflow_sub-x c = omega (arith, c.loop-left.invariant.ahead.there (omega arith))

pub lost_at-lost-requires : goal.lost_at-lost-requires
lost_at-lost-requires c =
    ahead.key-there c.loop-left.invariant.ahead c.requires.0 (omega arith)

pub add-mark-requires : goal.add-mark-requires
add-mark-requires c =
    let f = c.loop-left.invariant in
    (f.recorded.counted, omega (arith, laws.marking-fits _ _ _ _ _ _ _ f, f.ahead.some, c.ranges.n))

pub overflow_sub-left : goal.overflow_sub-left
overflow_sub-left c =
    c.loop-left.invariant.ahead.some

pub loop-left-smaller : goal.loop-left-smaller
loop-left-smaller c =
    laws.step_less _ _ _ c.if-x-eq0.false c.loop-left.invariant.ahead.some

pub loop-left-preserved : goal.loop-left-preserved
loop-left-preserved c =
    let f = c.loop-left.invariant in
    laws.marking_step _ _ _ _ _ _ _ f c.lost_at-lost.ensures (omega (arith, laws.marking-fits _ _ _ _ _ _ _ f, f.ahead.some, c.ranges.n))
    (c.add-mark.ensures.value, (c.add-mark.ensures.firsts_after, c.add-mark.ensures.lasts_after))

-- ---- the end
pub end-ended-requires : goal.end-ended-requires
end-ended-requires c = c.loop-left.invariant.recorded.counted

pub shape_of-firsts : goal.shape_of-firsts
shape_of-firsts c =
    (laws.marking-long _ _ _ _ _ _ _ c.loop-left.invariant (omega arith) (c.end-ended.ensures.value, (c.end-ended.ensures.firsts_after, c.end-ended.ensures.lasts_after))).0

pub shape_of-lasts : goal.shape_of-lasts
shape_of-lasts c =
    (laws.marking-long _ _ _ _ _ _ _ c.loop-left.invariant (omega arith) (c.end-ended.ensures.value, (c.end-ended.ensures.firsts_after, c.end-ended.ensures.lasts_after))).1

pub returns : goal.returns
returns c =
    let r = laws.marking-end _ _ _ _ _ _ _ c.loop-left.invariant (omega arith) (c.end-ended.ensures.value, (c.end-ended.ensures.firsts_after, c.end-ended.ensures.lasts_after)) in
    record { value = r.0; firsts_after = r.1; lasts_after = r.2 }

pub slice_bounds-shown_run-end : goal.slice_bounds-shown_run-end
slice_bounds-shown_run-end c = refl
