-- `repaired::next_run` meets its contract. The loop's invariant is `Merging`; its measure is what is left to merge, and what is left to take. Assumes nothing.
use native.Mathlib.Omega.{arith}
use Prim.Native.Nat.{◌-◌, ◌<◌}
use mathlib.Core.List.{[]}
use mathlib.Core.Path.{refl}
use Rattle.repaired.proofs.Ahead as ahead
use Rattle.repaired.proofs.Merging as laws
use Rattle.repaired.proofs.next_run.Goals.{then-rows-eq0, else-rows-eq0+else-not-same_entry}
use Rattle.repaired.proofs.next_run.Goals as goal

pub loop-rows-init : goal.loop-rows-init
loop-rows-init c =
    let p = c.requires in
    laws.merging_start _ _ _ _ _ _ _ _ p.2

-- ---- the next run
pub overflow_sub-left : goal.overflow_sub-left
overflow_sub-left c = c.loop-rows.invariant.most

pub shown_run-x-requires : goal.shown_run-x-requires
shown_run-x-requires c =
    let more : 0 < c.args.left - c.loop-rows.rows = omega (arith, c.least-most.ensures) in
    ahead.ahead-asks c.loop-rows.invariant.ahead (omega arith) (more) c.keys_by-source.ensures c.requires.0 []

pub loop-rows-smaller-then-x-eq0 : goal.loop-rows-smaller-then-x-eq0
loop-rows-smaller-then-x-eq0 c =
    let more : 0 < c.args.left - c.loop-rows.rows = omega (arith, c.least-most.ensures) in
    laws.next-less _ _ _ _ _ (omega arith) (ahead.ahead-less c.loop-rows.invariant.ahead (omega arith) (more) c.keys_by-source.ensures [] (c.shown_run-x.ensures.0, c.shown_run-x.ensures.1))

pub loop-rows-preserved-then-x-eq0 : goal.loop-rows-preserved-then-x-eq0
loop-rows-preserved-then-x-eq0 c =
    let more : 0 < c.args.left - c.loop-rows.rows = omega (arith, c.least-most.ensures) in
    laws.merging-next _ _ _ _ _ _ _ _ c.loop-rows.invariant (omega arith) (more) c.keys_by-source.ensures [] (c.shown_run-x.ensures.0, c.shown_run-x.ensures.1)

-- ---- the entry that it shows
pub overflow_sub-x : goal.overflow_sub-x
overflow_sub-x c = omega (arith, c.loop-rows.invariant.ahead.there (omega arith))

pub slot_in-shown-requires : goal.slot_in-shown-requires
slot_in-shown-requires c =
    ahead.key-there c.loop-rows.invariant.ahead c.requires.0 (omega arith)

pub same_entry-requires : goal.same_entry-requires
same_entry-requires c =
    let l = c.slot_in-shown.ensures.1 in
    (c.requires.1, omega arith, omega arith)

pub returns-then-not-same_entry : goal.returns-then-not-same_entry
returns-then-not-same_entry c =
    let f = c.loop-rows.invariant in
    laws.ends-before _ _ _ _ _ _ _ _ f c.slot_in-shown.ensures.0 c.same_entry.ensures c.if-not-same_entry.true c.if-rows-eq0.false c.if-x-eq0.false

pub overflow_sub-most : goal.overflow_sub-most
overflow_sub-most c = omega arith

pub overflow_add-rows : goal.overflow_add-rows
overflow_add-rows c =
    omega (arith, c.least-m.ensures, c.least-most.ensures)

pub overflow_sub-x-else-x-eq0 : goal.overflow_sub-x-else-x-eq0
overflow_sub-x-else-x-eq0 c = omega (arith, c.least-m.ensures)

pub loop-rows-smaller : goal.loop-rows-smaller
loop-rows-smaller c =
    laws.take_less _ _ _ _ _ (omega (arith, c.least-m.ensures)) (omega (arith, c.least-m.ensures)) c.loop-rows.invariant.ahead.some

pub loop-rows-preserved : goal.loop-rows-preserved
loop-rows-preserved c =
    let f = c.loop-rows.invariant in
    let joins : laws.Joins _ _ _ _ _ _ _ _ f c.if-rows-eq0.slot =
    elim c.if-rows-eq0.branch [
      | then-rows-eq0 w ↦
          laws.joins-first _ _ _ _ _ _ _ _ f c.slot_in-shown.ensures.0 c.slot_in-shown.ensures.1 w.if-rows-eq0.true w.slot-is
      | else-rows-eq0+else-not-same_entry w ↦
          laws.joins-same _ _ _ _ _ _ _ _ f c.slot_in-shown.ensures.0 w.same_entry.ensures w.if-not-same_entry.false w.slot-is
    ] in
    laws.merging-take _ _ _ _ _ _ _ _ c.loop-rows.invariant (joins) c.least-m.result (omega (arith, c.least-m.ensures)) (omega (arith, c.least-m.ensures, c.least-most.ensures))
    (omega (arith, c.least-m.ensures, c.least-most.ensures))

pub returns : goal.returns
returns c =
    laws.merging-end _ _ _ _ _ _ _ _ c.loop-rows.invariant c.requires.3 (omega (arith, c.least-most.ensures))

pub slice_bounds-shown_run-end : goal.slice_bounds-shown_run-end
slice_bounds-shown_run-end c = refl
