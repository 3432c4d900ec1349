-- `repaired_entries::write_items` meets its contract. The loop's invariant is `Items`, its measure the rows that are left. Assumes nothing.
use native.Mathlib.Omega.{arith}
use Rattle.repaired_entries.proofs.Going as going
use Rattle.repaired_entries.proofs.Laying as laws
use Rattle.repaired_entries.proofs.write_items.Goals.{then-next-gt0+then-meet_known, then-next-gt0+else-meet_known, else-next-gt0}
use Rattle.repaired_entries.proofs.write_items.Goals as goal

pub loop-left-init : goal.loop-left-init
loop-left-init c =
    let p = c.requires in
    laws.items-start _ _ _ _ _ _ _ _ _ p.1 p.2 p.4 c.none_yet-x.ensures

pub next_run-next-requires : goal.next_run-next-requires
next_run-next-requires c =
    let p = c.requires in
    (p.0, p.1, c.loop-left.invariant.going.there, omega arith)

pub slice_bounds-meet_known-end : goal.slice_bounds-meet_known-end
slice_bounds-meet_known-end c = c.loop-left.invariant.going.sized

pub slice_bounds-meet_known-end-then-next-gt0 : goal.slice_bounds-meet_known-end-then-next-gt0
slice_bounds-meet_known-end-then-next-gt0 c = c.loop-left.invariant.going.sized-met

pub meet_known-requires : goal.meet_known-requires
meet_known-requires c =
    let t = c.next_run-next.ensures in
    let next : going.Next c.args.kind c.args.entries c.args.runs c.args.counts.now c.args.keys.now c.args.items.now c.args.n
    c.loop-left.x c.loop-left.left c.next_run-next.result =
    record { some = t.0; most = t.1; inside = t.3; there = t.4; first = t.5 } in
    let p = c.requires in
    let g = c.loop-left.invariant.going.shown in
    (omega (arith, p.1.few), p.1.sound, p.3, g.used.firsts.long, g.those-met.long, c.if-next-gt0.true, next.inside)

pub put_item-to-requires : goal.put_item-to-requires
put_item-to-requires c =
    let t = c.next_run-next.ensures in
    let next : going.Next c.args.kind c.args.entries c.args.runs c.args.counts.now c.args.keys.now c.args.items.now c.args.n
    c.loop-left.x c.loop-left.left c.next_run-next.result =
    record { some = t.0; most = t.1; inside = t.3; there = t.4; first = t.5 } in
    let f = c.loop-left.invariant in (
      c.requires.1,
      c.if-next-gt0.true,
      next.inside,
      laws.items-room _ _ _ _ _ _ _ _ _ f
          (going.going-new _ _ _ _ _ _ _ f.going next c.if-next-gt0.true
          (c.meet_known.ensures.value, (c.meet_known.ensures.bits_len_unchanged, c.meet_known.ensures.met_len_unchanged)) c.if-meet_known.true),
    )

pub overflow_sub-left : goal.overflow_sub-left
overflow_sub-left c =
    let t = c.next_run-next.ensures in
    let next : going.Next c.args.kind c.args.entries c.args.runs c.args.counts.now c.args.keys.now c.args.items.now c.args.n
    c.loop-left.x c.loop-left.left c.next_run-next.result =
    record { some = t.0; most = t.1; inside = t.3; there = t.4; first = t.5 } in
    next.most

pub loop-left-smaller : goal.loop-left-smaller
loop-left-smaller c =
    let t = c.next_run-next.ensures in
    let next : going.Next c.args.kind c.args.entries c.args.runs c.args.counts.now c.args.keys.now c.args.items.now c.args.n
    c.loop-left.x c.loop-left.left c.next_run-next.result =
    record { some = t.0; most = t.1; inside = t.3; there = t.4; first = t.5 } in
    let r = next in omega (arith, r.some, r.most)

pub loop-left-preserved : goal.loop-left-preserved
loop-left-preserved c =
    let t = c.next_run-next.ensures in
    let next : going.Next c.args.kind c.args.entries c.args.runs c.args.counts.now c.args.keys.now c.args.items.now c.args.n
    c.loop-left.x c.loop-left.left c.next_run-next.result =
    record { some = t.0; most = t.1; inside = t.3; there = t.4; first = t.5 } in
    let f = c.loop-left.invariant in
    elim c.if-next-gt0.branch [
      | then-next-gt0+then-meet_known w ↦
          let m = w.meet_known.ensures in
          laws.items_as _ _ _ _ _ _ _ _ _
          (laws.items_more _ _ _ _ _ _ _ _ _ f
          (going.going-new _ _ _ _ _ _ _ f.going next w.if-next-gt0.true (m.value, (m.bits_len_unchanged, m.met_len_unchanged)) w.if-meet_known.true)
          w.put_item-to.ensures.value w.put_item-to.ensures.out_after)
          w.out-is w.bits-is w.met-is w.to-is
      | then-next-gt0+else-meet_known w ↦
          let m = w.meet_known.ensures in
          laws.items_as _ _ _ _ _ _ _ _ _
          (laws.items_kept _ _ _ _ _ _ _ _ _ f
          (going.going-old _ _ _ _ _ _ _ f.going next w.if-next-gt0.true (m.value, (m.bits_len_unchanged, m.met_len_unchanged)) w.if-meet_known.false))
          w.out-is w.bits-is w.met-is w.to-is
      | else-next-gt0 w ↦
          laws.items_as _ _ _ _ _ _ _ _ _ (laws.items_kept _ _ _ _ _ _ _ _ _ f (going.going-null _ _ _ _ _ _ _ f.going next w.if-next-gt0.false))
          w.out-is w.bits-is w.met-is w.to-is
    ]

pub shape_of-out : goal.shape_of-out
shape_of-out c = c.loop-left.invariant.laying.long

pub returns : goal.returns
returns c = laws.items-end _ _ _ _ _ _ _ _ _ c.loop-left.invariant (omega arith)
