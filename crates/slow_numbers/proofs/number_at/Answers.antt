-- `number_at` meets its contract. The loop's invariant: what the bytes that were taken are worth. Assumes nothing.
use Prim.Native.Nat.{ℕ}
use mathlib.Core.Path.{◌∙◌, ap}
use native.Mathlib.Omega.{arith}
use lib.ListN.{get_or}
use Rattle.slow_numbers.proofs.Digits.{taken_start, taken_step, taken-room, taken-end, place-within}
use Rattle.slow_numbers.proofs.number_at.Goals as goal

pub loop-i-init : goal.loop-i-init
loop-i-init c = taken_start _ _ _ _

pub overflow_mul-n : goal.overflow_mul-n
overflow_mul-n c = let r = taken-room c.loop-i.invariant (omega arith) (omega arith) in omega arith

pub bounds-s-from : goal.bounds-s-from
bounds-s-from c =
    let a = c.args in
    let w = place-within a.s.now a.at a.w c.loop-i.i (omega arith) (omega arith) a.high in
    omega (arith, c.place-from.ensures)

pub overflow_add-n : goal.overflow_add-n
overflow_add-n c = let r = taken-room c.loop-i.invariant (omega arith) (omega arith) in omega arith

pub loop-i-preserved : goal.loop-i-preserved
loop-i-preserved c =
    let a = c.args in
    let at = c.place-from in
    taken_step c.loop-i.invariant (omega arith) (omega arith)
    (c.wide.ensures.0 ∙ ap (λ (k : ℕ). get_or a.s.now k 0) at.ensures) c.wide.ensures.1

pub returns : goal.returns
returns c = taken-end c.loop-i.invariant (omega arith)
