-- `zeros::zeros` meets its contract. The loop's invariant is `Counting` from the first byte on, its measure the bytes that are left. Assumes nothing.
use Prim.Native.Nat.{◌+◌}
use native.Mathlib.Omega.{arith}
use mathlib.Core.Path.{◌∙◌}
use Rattle.zeros.proofs.Counting as laws
use Rattle.zeros.proofs.zeros.Goals as goal

pub loop-at-init : goal.loop-at-init
loop-at-init c = laws.counting-start _ 0 _

pub few_zeros-requires : goal.few_zeros-requires
few_zeros-requires c = let f = laws.some-few c.min-some.ensures in (omega (arith, f.within), f.few)

pub overflow_add-total : goal.overflow_add-total
overflow_add-total c =
    let counted : let l = c.loop-at in
    laws.Counting c.args.s.now 0 c.args.n (l.total + c.from-total.result) (l.at + c.min-some.result) =
    laws.counting-first c.loop-at.invariant (laws.some-few c.min-some.ensures).within (omega arith) (c.from-total.ensures ∙ c.few_zeros.ensures) in
    let g = counted in record { fits = omega (arith, g.few, g.sound) }

pub overflow_add-at : goal.overflow_add-at
overflow_add-at c =
    let counted : let l = c.loop-at in
    laws.Counting c.args.s.now 0 c.args.n (l.total + c.from-total.result) (l.at + c.min-some.result) =
    laws.counting-first c.loop-at.invariant (laws.some-few c.min-some.ensures).within (omega arith) (c.from-total.ensures ∙ c.few_zeros.ensures) in
    record { fits = omega (arith, (counted).sound) }

pub loop-at-smaller : goal.loop-at-smaller
loop-at-smaller c = let f = laws.some-few c.min-some.ensures in let z = f.any (omega arith) in let l = f.within in omega arith

pub loop-at-preserved : goal.loop-at-preserved
loop-at-preserved c =
    let counted : let l = c.loop-at in
    laws.Counting c.args.s.now 0 c.args.n (l.total + c.from-total.result) (l.at + c.min-some.result) =
    laws.counting-first c.loop-at.invariant (laws.some-few c.min-some.ensures).within (omega arith) (c.from-total.ensures ∙ c.few_zeros.ensures) in
    counted

pub returns : goal.returns
returns c =
    let g = c.loop-at.invariant in
    (laws.counting-end g (omega arith), omega (arith, g.few, g.sound))
