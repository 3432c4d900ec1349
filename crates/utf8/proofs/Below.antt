-- A test that is computed of each number below some number holds of each of them. Assumes nothing.
use Prim.Native.Nat.{ℕ, zero, suc, ◌<◌}
use native.Mathlib.Nat.{not-suc-le-zero}
use native.Mathlib.Omega.{arith}
use mathlib.Core.Bool.{Bool, true, false, ◌&&◌, and-eq-true_iff}
use mathlib.Core.Path.{◌≡◌, refl, ap, ◌∙◌}
use lib.Dec.{eqb}
use borrow.Author.Tests.{eqb-true, eqb-false}

abbrev pub below : ℕ → (ℕ → Bool) → Bool
below zero f = true
below (suc n) f = f n && below n f

pub below_at : (n : ℕ) (f : ℕ → Bool) → below n f ≡ true → (k : ℕ) → k < n → f k ≡ true
below_at zero f t k h = absurd (not-suc-le-zero h)
below_at (suc n) f t k h =
    let p = (and-eq-true_iff (f n) (below n f)).0 t in
    by p.0 (below_at n f p.1 k) (eqb k n) refl
  where
    by : f n ≡ true → (k < n → f k ≡ true) → (b : Bool) → eqb k n ≡ b → f k ≡ true
    by q ih true e = ap f (eqb-true k n e) ∙ q
    by q ih false e = let z = eqb-false k n e in ih (omega arith)
