-- `next` meets its contract: a first byte, a byte out of its range, and one in it. Assumes nothing.
use Prim.Native.Nat.{◌≤◌}
use mathlib.Core.Path.{sym, ◌∙◌}
use native.Mathlib.Omega.{arith}
use Rattle.slow_text.proofs.Starts.{shown}
use Rattle.slow_text.proofs.Going.{next-first, next-out, next-in, out-low, out-high, in_both}
use Rattle.slow_text.proofs.next.Goals as goal

pub returns-then-d-eq0 : goal.returns-then-d-eq0
returns-then-d-eq0 c =
    let d = c.args.d in
    (c.begun.ensures.0 ∙ next-first d.low d.high c.args.b d.left c.if-d-eq0.true, c.begun.ensures.1)

pub returns-then-b-d : goal.returns-then-b-d
returns-then-b-d c =
    let d = c.args.d in
    let few : d.left ≤ 3 = c.requires in
    let out = out-low d.low d.high c.args.b (omega arith) in
    (next-out d.low d.high c.args.b d.left (omega arith) (omega arith) out, tt)

pub returns-then-d-b : goal.returns-then-d-b
returns-then-d-b c =
    let d = c.args.d in
    let few : d.left ≤ 3 = c.requires in
    let out = out-high d.low d.high c.args.b (omega arith) (omega arith) in
    (next-out d.low d.high c.args.b d.left (omega arith) (omega arith) out, tt)

pub asks-requires : goal.asks-requires
asks-requires c = let few : c.args.d.left ≤ 3 = c.requires in omega arith

pub returns : goal.returns
returns c =
    let d = c.args.d in
    let few : d.left ≤ 3 = c.requires in
    let both = in_both d.low d.high c.args.b (omega arith) (omega arith) in
    shown c.asks.result c.asks.ensures (sym (next-in d.low d.high c.args.b d.left (omega arith) (omega arith) both))
