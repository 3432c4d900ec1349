-- `matching::same_part` meets its contract: by length first, then by the first byte, then as the library compares slices. Assumes nothing.
use Prim.Native.Nat.{◌+◌, ◌-◌, ◌<◌}
use native.Mathlib.Omega.{arith}
use mathlib.Core.Path.{◌≡◌, sym, ◌∙◌}
use Rattle.matching.proofs.Pairs.{part_length, first-byte, lengths-differ, firsts-differ, bytes_same}
use Rattle.matching.proofs.same_part.Goals as goal

pub returns-then-len-n : goal.returns-then-len-n
returns-then-len-n c =
    let a = c.args in
    lengths-differ _ _ (λ e. omega (arith, e, part_length a.a.now a.from a.len c.requires.0, part_length a.b.now a.at a.n c.requires.1, c.if-len-n.true))

pub returns-then-a-from : goal.returns-then-a-from
returns-then-a-from c =
    let a = c.args in
    let some : 0 < a.len = omega (arith, c.if-len-n.false, c.if-n-gt0.true) in
    firsts-differ _ _
    (omega (arith, some, part_length a.a.now a.from a.len c.requires.0))
    (omega (arith, c.if-n-gt0.true, part_length a.b.now a.at a.n c.requires.1))
    (λ e. c.if-a-from.true (sym (first-byte a.a.now a.from a.len some) ∙ e ∙ first-byte a.b.now a.at a.n c.if-n-gt0.true))

pub returns : goal.returns
returns c =
    let a = c.args in
    let long : a.from + a.n - a.from ≡ a.len = omega (arith, c.if-len-n.false) in
    let other : a.at + a.n - a.at ≡ a.n = omega arith in
    bytes_same _ _ (rw (long, other) at c.eq.ensures)
