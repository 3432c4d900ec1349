-- `text_len` meets its contract: no group that the loop passed has a NUL, and the first NUL of the next one ends the text. Assumes nothing.
use Prim.Native.Nat.{◌+◌, ◌-◌, ◌*◌}
use mathlib.Core.Path.{refl}
use native.Mathlib.Omega.{arith}
use Rattle.plain.proofs.Chars.{uncut-start}
use Rattle.char_rows.proofs.Groups.{part-text, part_room, group-stop, group-step, group-end}
use Rattle.char_rows.proofs.text_len.Goals as goal

pub loop-n-init : goal.loop-n-init
loop-n-init c = uncut-start _ _ _ _ refl

pub short_len-len-requires : goal.short_len-len-requires
short_len-len-requires c =
    let a = c.args in
    let n = c.loop-n.n in
    let from = a.i * a.w + n in
    part_room 64 from a.s.now (from + 64 - from) (omega arith) (omega arith)

pub returns-then-len-lt64 : goal.returns-then-len-lt64
returns-then-len-lt64 c =
    let a = c.args in
    let n = c.loop-n.n in
    let from = a.i * a.w + n in
    let found = part-text 64 from a.s.now (from + 64 - from) (omega arith) c.short_len-len.ensures.0 in
    (group-stop c.loop-n.invariant 64 (omega arith) (omega arith) found c.if-len-lt64.true, omega arith)

pub loop-n-preserved : goal.loop-n-preserved
loop-n-preserved c =
    let a = c.args in
    let n = c.loop-n.n in
    let from = a.i * a.w + n in
    let found = part-text 64 from a.s.now (from + 64 - from) (omega arith) c.short_len-len.ensures.0 in
    group-step c.loop-n.invariant 64 (omega arith) (omega arith) found (omega arith)

pub short_len-requires : goal.short_len-requires
short_len-requires c =
    let a = c.args in
    let n = c.loop-n.n in
    let from = a.i * a.w + n in
    part_room (a.w - n) from a.s.now (a.i * a.w + a.w - from) (omega arith) (omega arith)

pub returns : goal.returns
returns c =
    let a = c.args in
    let n = c.loop-n.n in
    let from = a.i * a.w + n in
    (group-end c.loop-n.invariant (part-text (a.w - n) from a.s.now (a.i * a.w + a.w - from) (omega arith) c.short_len.ensures.0), omega arith)
