-- `lookup::finding::find_char` meets its contract: the items that the loop has passed have good lengths and are not the row. Assumes nothing.
use Prim.Native.Nat.{◌<◌}
use mathlib.Core.Path.{sym, ◌∙◌}
use native.Mathlib.Omega.{arith}
use borrow.Author.Rules.{rules}
use borrow.Author.Tests.{lt-ltb, le-ltb}
use lib.ListN.{get_or}
use Rattle.plain.proofs.Numbers.{product_small}
use Rattle.lookup.specs.Held.{field_wrong}
use Rattle.lookup.proofs.There.{ByLength, alike-room, alike-good, alike_same, unlike-same}
use Rattle.lookup.proofs.Passed.{looking-start, looking-wrong, looking-here, looking-step, looking-end}
use Rattle.lookup.proofs.finding.find_char.Goals as goal
use Rattle.lookup.proofs.finding.find_char.Goals.{then-l-len+else-same_as, else-l-len+else-w-l}

pub loop-i-init : goal.loop-i-init
loop-i-init c = looking-start _ _ _ _ _

pub bounds-lens-i : goal.bounds-lens-i
bounds-lens-i c = omega (arith, c.requires.1)

pub overflow_cast-l : goal.overflow_cast-l
overflow_cast-l c =
    let known : let a = c.args in
    ByLength a.w a.items.now a.lens.now a.n c.loop-i.i a.item.now c.held_len-len.result = record {
      inside = omega arith;
      room = c.requires.2;
      byte = omega (arith, c.type_inv.lens c.loop-i.i);
      asked = c.held_len-len.ensures;
    } in
    omega (arith, (known).byte)

pub overflow_mul-i : goal.overflow_mul-i
overflow_mul-i c =
    let b : c.args.w < 256 = search rules in
    let h = product_small c.loop-i.i c.args.w (omega (arith, c.requires.0)) b in
    omega arith

pub same_as-requires : goal.same_as-requires
same_as-requires c =
    let known : let a = c.args in
    ByLength a.w a.items.now a.lens.now a.n c.loop-i.i a.item.now c.held_len-len.result = record {
      inside = omega arith;
      room = c.requires.2;
      byte = omega (arith, c.type_inv.lens c.loop-i.i);
      asked = c.held_len-len.ensures;
    } in
    alike-room (known) c.if-l-len.true

pub returns-then-same_as : goal.returns-then-same_as
returns-then-same_as c =
    let known : let a = c.args in
    ByLength a.w a.items.now a.lens.now a.n c.loop-i.i a.item.now c.held_len-len.result = record {
      inside = omega arith;
      room = c.requires.2;
      byte = omega (arith, c.type_inv.lens c.loop-i.i);
      asked = c.held_len-len.ensures;
    } in
    let g = known in
    let q = c.if-l-len.true in
    looking-here c.loop-i.invariant g.inside (alike-good g q 0) (sym (alike_same g q c.same_as.ensures) ∙ c.if-same_as.true)

pub returns-then-w-l : goal.returns-then-w-l
unfolding field_wrong
returns-then-w-l c =
    let a = c.args in
    looking-wrong c.loop-i.invariant (omega arith) (lt-ltb a.w (get_or a.lens.now c.loop-i.i 0) c.if-w-l.true)

pub loop-i-preserved : goal.loop-i-preserved
unfolding field_wrong
loop-i-preserved c =
    let known : let a = c.args in
    ByLength a.w a.items.now a.lens.now a.n c.loop-i.i a.item.now c.held_len-len.result = record {
      inside = omega arith;
      room = c.requires.2;
      byte = omega (arith, c.type_inv.lens c.loop-i.i);
      asked = c.held_len-len.ensures;
    } in
    let a = c.args in
    let g = known in
    elim c.if-l-len.branch [
      | then-l-len+else-same_as w ↦
          looking-step c.loop-i.invariant g.inside (alike-good g w.if-l-len.true 0) (sym (alike_same g w.if-l-len.true w.same_as.ensures) ∙ w.if-same_as.false)
      | else-l-len+else-w-l w ↦
          looking-step c.loop-i.invariant g.inside (le-ltb a.w (get_or a.lens.now c.loop-i.i 0) w.if-w-l.false) (unlike-same g w.if-l-len.false w.if-w-l.false)
    ]

pub returns : goal.returns
returns c = looking-end c.loop-i.invariant (omega arith)
