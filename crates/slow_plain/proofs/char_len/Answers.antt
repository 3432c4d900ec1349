-- `char_len` meets its contract. The loop's invariant: no byte that was passed is a NUL, so that what is left decides the length.
-- Assumes nothing.
use mathlib.Core.Path.{◌≡◌, refl, sym, ◌∙◌}
use native.Mathlib.Omega.{arith}
use Rattle.plain.proofs.Chars.{uncut-start, uncut-stop, uncut-step, uncut-end}
use Rattle.slow_plain.proofs.char_len.Goals as goal

pub loop-len-init : goal.loop-len-init
loop-len-init c = uncut-start _ _ _ _ refl

pub returns-then-s-from-eq0 : goal.returns-then-s-from-eq0
returns-then-s-from-eq0 c = (uncut-stop c.loop-len.invariant (omega arith) (omega arith) c.if-s-from-eq0.true, omega arith)

pub loop-len-preserved : goal.loop-len-preserved
loop-len-preserved c = uncut-step c.loop-len.invariant (omega arith) (omega arith) c.if-s-from-eq0.false

pub returns : goal.returns
returns c =
    let a = c.args in
    let e : c.loop-len.len ≡ a.w = omega arith in
    (sym e ∙ uncut-end c.loop-len.invariant (omega arith), omega arith)
