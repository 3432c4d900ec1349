-- `repaired_sizes::sizes_of` meets its contract. The loop's invariant is `Sizing`; its measure is the rows that are left. Assumes nothing.
use native.Mathlib.Omega.{arith}
use mathlib.Core.Path.{refl}
use Rattle.repaired_sizes.proofs.Sizing as laws
use Rattle.repaired_sizes.proofs.sizes_of.Goals.{then-next-gt0+then-meet, then-next-gt0+else-meet, else-next-gt0}
use Rattle.repaired_sizes.proofs.sizes_of.Goals as goal

pub loop-left-init : goal.loop-left-init
loop-left-init c =
    let p = c.requires in
    laws.sizing-start _ _ _ _ _ _ _ _ p.1 p.2 p.4 refl c.none_yet-x.ensures

pub next_run-next-requires : goal.next_run-next-requires
next_run-next-requires c =
    let p = c.requires in
    (p.0, p.1, c.loop-left.invariant.ahead, c.loop-left-test.true)

pub with_run-sizes-requires : goal.with_run-sizes-requires
with_run-sizes-requires c =
    let w = laws.sizing-within _ _ _ _ _ _ _ _ c.loop-left.invariant c.requires.5 in
    (omega arith, w.0, w.1)

-- ---- the run's entry
pub slice_bounds-meet-end : goal.slice_bounds-meet-end
slice_bounds-meet-end c = c.loop-left.invariant.room

pub meet-requires : goal.meet-requires
meet-requires c =
    let e = c.requires.1 in
    let s = c.loop-left.invariant.shown in
    (omega (arith, e.few), e.sound, s.used.firsts.long, s.those-met.long, c.if-next-gt0.true, c.next_run-next.ensures.3)

pub item_len-requires : goal.item_len-requires
item_len-requires c =
    let p = c.requires in
    (p.1, p.3, c.if-next-gt0.true, c.next_run-next.ensures.3)

pub with_entry-sizes-requires : goal.with_entry-sizes-requires
with_entry-sizes-requires c =
    let e = c.with_run-sizes.ensures in
    let r = laws.sizing-room _ _ _ _ _ _ _ _ c.loop-left.invariant c.next_run-next.result c.next_run-next.ensures e c.requires.5 in
    (c.item_len.ensures.1, r.0, r.1)

-- ---- the next turn
pub overflow_sub-left : goal.overflow_sub-left
overflow_sub-left c = c.next_run-next.ensures.1

pub loop-left-smaller : goal.loop-left-smaller
loop-left-smaller c =
    omega (arith, c.next_run-next.ensures.0, c.next_run-next.ensures.1)

pub loop-left-preserved : goal.loop-left-preserved
loop-left-preserved c =
    let f = c.loop-left.invariant in
    let y = c.next_run-next.result in
    let told = c.next_run-next.ensures in
    let e = c.with_run-sizes.ensures in
    elim c.if-next-gt0.branch [
      | then-next-gt0+then-meet w ↦
          let u = w.meet.ensures in
          laws.sizing-new _ _ _ _ _ _ _ _ f y told e w.if-next-gt0.true _ _ u.value u.bits_len_unchanged u.met_len_unchanged w.if-meet.true
          w.item_len.ensures.0 w.with_entry-sizes.ensures w.firsts-is w.sizes-is w.met-is
      | then-next-gt0+else-meet w ↦
          let u = w.meet.ensures in
          laws.sizing-old _ _ _ _ _ _ _ _ f y told e w.if-next-gt0.true _ _ u.value u.bits_len_unchanged u.met_len_unchanged w.if-meet.false
          w.firsts-is w.sizes-is w.met-is
      | else-next-gt0 w ↦ laws.sizing-null _ _ _ _ _ _ _ _ f y told e w.if-next-gt0.false w.firsts-is w.sizes-is w.met-is
    ]

pub shape_of-firsts : goal.shape_of-firsts
shape_of-firsts c = c.loop-left.invariant.long

pub returns : goal.returns
returns c =
    let all = laws.sizing-end _ _ _ _ _ _ _ _ c.loop-left.invariant c.loop-left-test.false in
    record { value = all.0; used = all.1 }
