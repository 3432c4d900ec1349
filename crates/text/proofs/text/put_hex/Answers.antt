-- `put_hex` meets its contract. The loop's invariant is `Hexing`. Assumes nothing.
use Prim.Native.Nat.{◌+◌, ◌*◌}
use native.Mathlib.Omega.{arith}
use mathlib.Core.Path.{◌≡◌, refl}
use Rattle.text.proofs.Laying as laws
use Rattle.text.proofs.text.put_hex.Goals as goal

pub loop-i-init : goal.loop-i-init
loop-i-init c = laws.hexing-start _ _ (omega arith)

pub loop-i-preserved : goal.loop-i-preserved
loop-i-preserved c =
    let two : 2 * (c.loop-i.i + 1) ≡ 2 * c.loop-i.i + 2 = omega arith in
    rw two (laws.hexing-step c.loop-i.invariant (omega arith) refl c.glyph.ensures c.glyph-in-loop-i.ensures)

pub shape_of-out : goal.shape_of-out
shape_of-out c = c.loop-i.invariant.long

pub returns : goal.returns
returns c = laws.hexing-end c.loop-i.invariant (omega arith)
