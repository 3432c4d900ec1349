-- `count_at` meets its contract. The loop's invariant: what the bytes that were passed make of the rest. Assumes nothing.
use Prim.Native.Nat.{◌-◌, ◌*◌, ◌≤◌}
use native.Mathlib.Omega.{arith}
use Rattle.slow_numbers.proofs.Counts.{passed_start, passed-step, passed-cut, passed-last, passed-all, passed-worth, bits-few}
use Rattle.slow_numbers.proofs.count_at.Goals as goal

pub loop-i-init : goal.loop-i-init
loop-i-init c = passed_start _ _ (omega arith)

pub returns-then-s-at : goal.returns-then-s-at
returns-then-s-at c = passed-cut c.loop-i.invariant (omega arith)

pub last_byte-requires : goal.last_byte-requires
last_byte-requires c =
    let g = c.loop-i.invariant in
    (g.low, passed-worth g (omega arith), omega arith, omega arith)

pub returns-then-b-lt128 : goal.returns-then-b-lt128
returns-then-b-lt128 c =
    passed-last c.loop-i.invariant (omega arith) (omega arith) c.wide-b.ensures.0 (omega arith) c.last_byte.ensures

pub overflow_mul-value : goal.overflow_mul-value
overflow_mul-value c =
    let few : let l = c.loop-i in
    ((c.wide-b.result - 128) * l.worth ≤ 34091302912) × (l.worth ≤ 268435456) = let l = c.loop-i in
    let h = passed-worth l.invariant (omega arith) in
    (bits-few (c.wide-b.result - 128) l.worth (omega (arith, c.wide-b.ensures.1)) h, h) in
    let h = few in omega arith

pub overflow_add-value : goal.overflow_add-value
overflow_add-value c =
    let few : let l = c.loop-i in
    ((c.wide-b.result - 128) * l.worth ≤ 34091302912) × (l.worth ≤ 268435456) = let l = c.loop-i in
    let h = passed-worth l.invariant (omega arith) in
    (bits-few (c.wide-b.result - 128) l.worth (omega (arith, c.wide-b.ensures.1)) h, h) in
    let h = few in let l = c.loop-i.invariant.low in omega arith

pub overflow_mul-worth : goal.overflow_mul-worth
overflow_mul-worth c =
    let few : let l = c.loop-i in
    ((c.wide-b.result - 128) * l.worth ≤ 34091302912) × (l.worth ≤ 268435456) = let l = c.loop-i in
    let h = passed-worth l.invariant (omega arith) in
    (bits-few (c.wide-b.result - 128) l.worth (omega (arith, c.wide-b.ensures.1)) h, h) in
    let h = few in omega arith

pub loop-i-preserved : goal.loop-i-preserved
loop-i-preserved c =
    passed-step c.loop-i.invariant (omega arith) (omega arith) c.wide-b.ensures.0 (omega arith) c.wide-b.ensures.1

pub returns : goal.returns
returns c = passed-all c.loop-i.invariant (omega arith)
