-- Signed numbers and their bits: what each way of a test `v >= 0` says of v, and a width's two's complement read at 64 bits.
-- A signed local holds bits, which the machine reads back: so v stands as `to_z w64 (of_z w64 v)`. Assumes nothing.
use mathlib.Core.Path.{◌≡◌, refl, sym, ap, ◌∙◌, subst}
use mathlib.Core.Bool.{Bool, true, false}
use Prim.Native.Nat.{ℕ, suc, ◌-◌, ◌<◌, ◌^◌}
use native.Mathlib.Omega.{arith}
use lib.Dec.{T, leb, leb-zero}
use lib.IntN.{ℤ, pos, negsuc, nat_abs}
use lib.Signed.{mag, le_z, non_neg}
use mir.Syntax.{Width, w64}
use mir.Val.{Fits, SFits, of_z, to_z, bits, hbits}
use mir.Facts.{to_z-of_z, to_z_pos, to_z-neg}

clash : {X : Type 0} (t : Bool) → t ≡ true → t ≡ false → X
clash t p q = let z : ◌≡◌ {A = ℕ} 0 1 = cc in absurd (omega arith)

is_pos : (v : ℤ) → le_z (pos 0) v ≡ true → v ≡ pos (mag v)
is_pos (pos n) h = refl
is_pos (negsuc n) h = clash false h refl

is-neg : (v : ℤ) → le_z (pos 0) v ≡ false → v ≡ negsuc (mag v)
is-neg (pos n) h = clash (leb 0 n) (leb-zero n) h
is-neg (negsuc n) h = refl

-- a cast to unsigned is defined where the number is known not to be negative
pub casts : {y : ℤ} {n : ℕ} → y ≡ pos n → n < 2 ^ hbits w64 → T (non_neg y) × Fits w64 (nat_abs y)
casts e b = subst (λ (y : ℤ). T (non_neg y) × Fits w64 (nat_abs y)) (sym e) (tt, record { fits = omega arith })

module _ (v : ℤ) (f : SFits w64 v) where
  test : {t : Bool} → le_z (pos 0) (to_z w64 (of_z w64 v)) ≡ t → le_z (pos 0) v ≡ t
  test h = ap (le_z (pos 0)) (sym (to_z-of_z f)) ∙ h

  -- the test passed: v is its magnitude
  module _ (h : le_z (pos 0) (to_z w64 (of_z w64 v)) ≡ true) where
    pub kept : to_z w64 (of_z w64 v) ≡ pos (mag v)
    kept = to_z-of_z f ∙ is_pos v (test h)

    pub kept-bits : mag v ≡ of_z w64 v
    kept-bits = ap (of_z w64) (sym (is_pos v (test h)))

  -- it failed: v with its bits turned over is its magnitude
  module _ (h : le_z (pos 0) (to_z w64 (of_z w64 v)) ≡ false) where
    pub turned : to_z w64 (18446744073709551615 - of_z w64 v) ≡ pos (mag v)
    turned =
        let b : mag v < 2 ^ hbits w64 = f.sfits in
        let e : 18446744073709551615 - (2 ^ bits w64 - suc (mag v)) ≡ mag v = omega arith in
        ap (λ (y : ℤ). to_z w64 (18446744073709551615 - of_z w64 y)) (is-neg v (test h)) ∙ ap (to_z w64) e ∙ to_z_pos w64 b

    pub turned-bits : 18446744073709551615 - mag v ≡ of_z w64 v
    turned-bits =
        let b : mag v < 2 ^ hbits w64 = f.sfits in
        let e : 18446744073709551615 - mag v ≡ 2 ^ bits w64 - suc (mag v) = omega arith in
        e ∙ ap (of_z w64) (sym (is-neg v (test h)))

-- the lower half of a width's numbers, read at 64 bits
pub same_low : (w : Width) (u : ℕ) → u < 2 ^ hbits w → u < 2 ^ hbits w64 → to_z w64 u ≡ to_z w u
same_low w u h h64 = to_z_pos w64 h64 ∙ sym (to_z_pos w h)

-- and the upper half: u is -(k + 1) at the width, and x is that at 64 bits
pub same-high : (w : Width) (u k x : ℕ) → k < 2 ^ hbits w → k < 2 ^ hbits w64 → u ≡ 2 ^ bits w - suc k → x ≡ 2 ^ bits w64 - suc k → to_z w64 x ≡ to_z w u
same-high w u k x h h64 e ex = ap (to_z w64) ex ∙ to_z-neg w64 k h64 ∙ sym (ap (to_z w) e ∙ to_z-neg w k h)
