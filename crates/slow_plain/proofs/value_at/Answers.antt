-- `value_at` meets its contract: the number of the item's bytes, and what it reads as. Assumes nothing.
use Prim.Native.Nat.{ℕ, ◌+◌, ◌*◌, ◌^◌, ◌≤◌, ◌<◌}
use mathlib.Core.Path.{subst}
use native.Mathlib.Omega.{arith}
use borrow.Author.Rules.{rules}
use lib.ListN.{length}
use Rattle.slow_plain.proofs.Values.{width-eight, width_room, value_read}
use Rattle.slow_plain.proofs.value_at.Goals as goal

pub overflow_mul-i : goal.overflow_mul-i
overflow_mul-i c =
    let room : let a = c.args in a.i * c.width_of-w.result + c.width_of-w.result ≤ length a.s.now = let a = c.args in width_room a.i (length a.s.now) c.width_of-w.ensures c.requires.1 in
    let h = room in omega arith

pub number_at-n-requires : goal.number_at-n-requires
number_at-n-requires c =
    let room : let a = c.args in a.i * c.width_of-w.result + c.width_of-w.result ≤ length a.s.now = let a = c.args in width_room a.i (length a.s.now) c.width_of-w.ensures c.requires.1 in
    let f = width-eight c.args.p in
    (omega (arith, c.width_of-w.ensures), room)

pub value_of-requires : goal.value_of-requires
value_of-requires c =
    let n = c.number_at-n.result in
    subst (λ (w : ℕ). n < 256 ^ w) c.width_of-w.ensures c.number_at-n.ensures.1

pub returns : goal.returns
returns c =
    let a = c.args in
    value_read a.p a.s.now a.i c.width_of-w.ensures c.high_first.ensures
    c.number_at-n.ensures.0 c.value_of.ensures (search rules)
