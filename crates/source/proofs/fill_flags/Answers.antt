-- `source::fill_flags` meets its contract. Assumes nothing.
use native.Mathlib.Omega.{arith}
use Prim.Native.Nat.{ℕ}
use mathlib.Core.Path.{◌≡◌, sym, ap}
use lib.ListN.{replicate}
use lib.Seq.{sets}
use Rattle.source.proofs.fill_flags.Goals as goal

pub returns-then-rows-eq1 : goal.returns-then-rows-eq1
returns-then-rows-eq1 c =
    let a = c.args in
    let e : a.rows ≡ 1 = omega arith in
    ap (λ (m : ℕ). sets a.flags.now a.to (replicate m a.flag)) (sym e)
