-- `copies::runs_counted` meets its contract. The loop's invariant is `Going`: the rows that are left, behind the numbers so far, make the numbers of all. Assumes
-- nothing.
use native.Mathlib.Omega.{arith}
use mathlib.Core.Path.{refl}
use Rattle.copies.proofs.Numbers as laws
use Rattle.copies.proofs.limiting.runs_counted.Goals as goal

pub loop-left-init : goal.loop-left-init
loop-left-init c = record { same = refl; within = c.requires.1; some = c.requires.2 }

pub returns-then-too_long_again : goal.returns-then-too_long_again
returns-then-too_long_again c =
    laws.limited-past _ _ _ _ (laws.going-item _ _ _ _ c.loop-left.invariant c.loop-left-test.true c.too_long_again.ensures c.if-too_long_again.true) refl

pub next_stretch-next-requires : goal.next_stretch-next-requires
next_stretch-next-requires c =
    let g = c.loop-left.invariant in
    (c.requires.0, g.within, g.some, laws.item-short _ _ _ c.too_long_again.ensures c.if-too_long_again.false, c.loop-left-test.true)

pub is_past-requires : goal.is_past-requires
is_past-requires c = (c.next_stretch-next.ensures.4, λ _. c.next_stretch-next.ensures.5)

pub returns-then-is_past : goal.returns-then-is_past
returns-then-is_past c =
    laws.limited-past _ _ _ _ (laws.going-past _ _ _ _ c.loop-left.invariant _ c.next_stretch-next.ensures.1 c.next_stretch-next.ensures.2 c.is_past.ensures c.if-is_past.true)
    refl

pub overflow_sub-left : goal.overflow_sub-left
overflow_sub-left c = omega (arith, c.next_stretch-next.ensures.1)

pub loop-left-smaller : goal.loop-left-smaller
loop-left-smaller c =
    omega (arith, c.next_stretch-next.ensures.0, c.next_stretch-next.ensures.1)

pub loop-left-preserved : goal.loop-left-preserved
loop-left-preserved c =
    laws.going_on _ _ _ _ c.loop-left.invariant _ c.next_stretch-next.ensures.1 c.next_stretch-next.ensures.2 c.next_stretch-next.ensures.3 c.is_past.ensures c.if-is_past.false

pub returns : goal.returns
returns c = laws.going_done _ _ _ _ c.loop-left.invariant (omega (arith, c.loop-left-test.false)) _
