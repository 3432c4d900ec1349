-- `is_ascii` meets its contract. The loop's invariant: the largest byte that was passed and the bytes that are left decide. Assumes nothing.
use mathlib.Core.Path.{refl}
use native.Mathlib.Omega.{arith}
use Rattle.utf8.proofs.Ascii.{topped-start, topped-step, topped-end}
use Rattle.utf8.proofs.is_ascii.Goals as goal

pub loop-i-init : goal.loop-i-init
loop-i-init c = topped-start _ _ _

pub loop-i-preserved : goal.loop-i-preserved
loop-i-preserved c =
    let m = c.max-top.ensures in
    topped-step c.loop-i.invariant (omega arith) (omega arith) _ _ refl (λ h. omega arith, λ h. omega arith)

pub returns : goal.returns
returns c = topped-end c.loop-i.invariant (omega arith)
