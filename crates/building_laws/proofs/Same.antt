-- `same` is a test of equality, either way round (plain/proofs/Same). Assumes nothing.
use Prim.Native.Nat.{ℕ}
use mathlib.Core.Bool.{true, false}
use mathlib.Core.Path.{◌≡◌}
use native.Mathlib.Omega.{arith}
pub use Rattle.plain.proofs.Same.{same-equal as same-told, same_self as same_refl, same-sym}

-- two that are never equal
pub never : {A : Type 0} → false ≡ true → A
never h = let z : ◌≡◌ {A = ℕ} 0 1 = cc in absurd (omega arith)
