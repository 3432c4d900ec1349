-- `repaired_entries::write_ends` meets its contract. The loop's invariant is `Ends`, its measure the rows that are left. Assumes nothing.
use native.Mathlib.Omega.{arith}
use Rattle.repaired_entries.proofs.Going as going
use Rattle.repaired_entries.proofs.Laying as laws
use Rattle.repaired_entries.proofs.write_ends.Goals.{then-next-gt0+then-meet_known, then-next-gt0+else-meet_known, else-next-gt0}
use Rattle.repaired_entries.proofs.write_ends.Goals as goal

pub loop-left-init : goal.loop-left-init
loop-left-init c =
    let p = c.requires in
    laws.ends-start _ _ _ _ _ _ _ _ _ p.1 p.2 p.6 c.none_yet-x.ensures

pub next_run-next-requires : goal.next_run-next-requires
next_run-next-requires c =
    let p = c.requires in
    (p.0, p.1, c.loop-left.invariant.going.there, omega arith)

pub slice_bounds-meet_known-end : goal.slice_bounds-meet_known-end
slice_bounds-meet_known-end c = c.loop-left.invariant.going.sized

pub slice_bounds-meet_known-end-then-next-gt0 : goal.slice_bounds-meet_known-end-then-next-gt0
slice_bounds-meet_known-end-then-next-gt0 c = c.loop-left.invariant.going.sized-met

pub meet_known-requires : goal.meet_known-requires
meet_known-requires c =
    let t = c.next_run-next.ensures in
    let next : going.Next c.args.kind c.args.entries c.args.runs c.args.counts.now c.args.keys.now c.args.items.now c.args.n
    c.loop-left.x c.loop-left.left c.next_run-next.result =
    record { some = t.0; most = t.1; inside = t.3; there = t.4; first = t.5 } in
    let p = c.requires in
    let g = c.loop-left.invariant.going.shown in
    (omega (arith, p.1.few), p.1.sound, p.3, g.used.firsts.long, g.those-met.long, c.if-next-gt0.true, next.inside)

pub item_len-end-requires : goal.item_len-end-requires
item_len-end-requires c =
    let t = c.next_run-next.ensures in
    let next : going.Next c.args.kind c.args.entries c.args.runs c.args.counts.now c.args.keys.now c.args.items.now c.args.n
    c.loop-left.x c.loop-left.left c.next_run-next.result =
    record { some = t.0; most = t.1; inside = t.3; there = t.4; first = t.5 } in
    let p = c.requires in
    (p.1, p.4, c.if-next-gt0.true, next.inside)

pub overflow_add-end : goal.overflow_add-end
overflow_add-end c =
    let Grows : Type 0 = let a = c.args in
    going.Grown a.kind a.entries a.runs a.counts.now a.keys.now a.items.now a.n c.loop-left.x c.loop-left.left c.next_run-next.result
    c.loop-left.invariant.es c.meet_known.new.bits c.meet_known.new.met in
    let t = c.next_run-next.ensures in
    let next : going.Next c.args.kind c.args.entries c.args.runs c.args.counts.now c.args.keys.now c.args.items.now c.args.n
    c.loop-left.x c.loop-left.left c.next_run-next.result =
    record { some = t.0; most = t.1; inside = t.3; there = t.4; first = t.5 } in
    let grows : Grows = going.going-new _ _ _ _ _ _ _ c.loop-left.invariant.going next c.if-next-gt0.true
    (c.meet_known.ensures.value, (c.meet_known.ensures.bits_len_unchanged, c.meet_known.ensures.met_len_unchanged)) c.if-meet_known.true in
    let l = laws.ends-most _ _ _ _ _ _ _ _ _ c.loop-left.invariant (grows) c.item_len-end.ensures.0 c.requires.5 in
    omega arith

pub put_low4-to-requires : goal.put_low4-to-requires
put_low4-to-requires c =
    let Grows : Type 0 = let a = c.args in
    going.Grown a.kind a.entries a.runs a.counts.now a.keys.now a.items.now a.n c.loop-left.x c.loop-left.left c.next_run-next.result
    c.loop-left.invariant.es c.meet_known.new.bits c.meet_known.new.met in
    let t = c.next_run-next.ensures in
    let next : going.Next c.args.kind c.args.entries c.args.runs c.args.counts.now c.args.keys.now c.args.items.now c.args.n
    c.loop-left.x c.loop-left.left c.next_run-next.result =
    record { some = t.0; most = t.1; inside = t.3; there = t.4; first = t.5 } in
    let grows : Grows = going.going-new _ _ _ _ _ _ _ c.loop-left.invariant.going next c.if-next-gt0.true
    (c.meet_known.ensures.value, (c.meet_known.ensures.bits_len_unchanged, c.meet_known.ensures.met_len_unchanged)) c.if-meet_known.true in
    laws.ends-room _ _ _ _ _ _ _ _ _ c.loop-left.invariant (grows) c.item_len-end.ensures.0

pub overflow_sub-left : goal.overflow_sub-left
overflow_sub-left c =
    let t = c.next_run-next.ensures in
    let next : going.Next c.args.kind c.args.entries c.args.runs c.args.counts.now c.args.keys.now c.args.items.now c.args.n
    c.loop-left.x c.loop-left.left c.next_run-next.result =
    record { some = t.0; most = t.1; inside = t.3; there = t.4; first = t.5 } in
    next.most

pub loop-left-smaller : goal.loop-left-smaller
loop-left-smaller c =
    let t = c.next_run-next.ensures in
    let next : going.Next c.args.kind c.args.entries c.args.runs c.args.counts.now c.args.keys.now c.args.items.now c.args.n
    c.loop-left.x c.loop-left.left c.next_run-next.result =
    record { some = t.0; most = t.1; inside = t.3; there = t.4; first = t.5 } in
    let r = next in omega (arith, r.some, r.most)

pub loop-left-preserved : goal.loop-left-preserved
loop-left-preserved c =
    let t = c.next_run-next.ensures in
    let next : going.Next c.args.kind c.args.entries c.args.runs c.args.counts.now c.args.keys.now c.args.items.now c.args.n
    c.loop-left.x c.loop-left.left c.next_run-next.result =
    record { some = t.0; most = t.1; inside = t.3; there = t.4; first = t.5 } in
    let f = c.loop-left.invariant in
    elim c.if-next-gt0.branch [
      | then-next-gt0+then-meet_known w ↦
          let m = w.meet_known.ensures in
          laws.ends_as _ _ _ _ _ _ _ _ _
          (laws.ends_more _ _ _ _ _ _ _ _ _ f
          (going.going-new _ _ _ _ _ _ _ f.going next w.if-next-gt0.true (m.value, (m.bits_len_unchanged, m.met_len_unchanged)) w.if-meet_known.true)
          w.item_len-end.ensures.0 w.put_low4-to.ensures.value w.put_low4-to.ensures.out_after)
          w.out-is w.bits-is w.met-is w.to-is w.end-is
      | then-next-gt0+else-meet_known w ↦
          let m = w.meet_known.ensures in
          laws.ends_as _ _ _ _ _ _ _ _ _
          (laws.ends-kept _ _ _ _ _ _ _ _ _ f
          (going.going-old _ _ _ _ _ _ _ f.going next w.if-next-gt0.true (m.value, (m.bits_len_unchanged, m.met_len_unchanged)) w.if-meet_known.false))
          w.out-is w.bits-is w.met-is w.to-is w.end-is
      | else-next-gt0 w ↦
          laws.ends_as _ _ _ _ _ _ _ _ _ (laws.ends-kept _ _ _ _ _ _ _ _ _ f (going.going-null _ _ _ _ _ _ _ f.going next w.if-next-gt0.false))
          w.out-is w.bits-is w.met-is w.to-is w.end-is
    ]

pub shape_of-out : goal.shape_of-out
shape_of-out c = c.loop-left.invariant.laying.long

pub returns : goal.returns
returns c = laws.ends-end _ _ _ _ _ _ _ _ _ c.loop-left.invariant (omega arith)
