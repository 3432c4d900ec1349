-- Rules one after another, and the answer that a number gives. Assumes nothing.
use Prim.Native.Nat.{ℕ, zero, suc, ◌<◌}
use native.Mathlib.Omega.{arith}
use mathlib.Core.List.{List, [], ◌∷◌}
use mathlib.Core.Path.{◌≡◌, refl}
use Rattle.plain.specs.Rules.{first_of}
use Rattle.std.specs.Prelude.{Ok, Err}
use Rattle.format.specs.declared.Head.{Head}
use Rattle.format.specs.Found.{found_by}

-- ---- rules
pub first_one : (e : ℕ) → first_of (e ∷ []) ≡ e
unfolding first_of
first_one zero = refl
first_one (suc e) = refl

-- a rule that is broken, and one that is kept
pub broken-first : (e : ℕ) (es : List ℕ) → (e ≡ 0 → ⊥) → first_of (e ∷ es) ≡ e
unfolding first_of
broken-first zero es h = absurd (h refl)
broken-first (suc e) es h = refl

pub kept-first : {e : ℕ} (es : List ℕ) → e ≡ 0 → first_of (e ∷ es) ≡ first_of es
unfolding first_of
kept-first es h = rw h

-- two rules taken as one
pub two-first : (x y z : ℕ) → first_of (x ∷ y ∷ z ∷ []) ≡ first_of (first_of (x ∷ y ∷ []) ∷ z ∷ [])
unfolding first_of
two-first zero zero z = refl
two-first zero (suc y) z = refl
two-first (suc x) y z = refl

-- ---- the answer that a number gives
pub refused-by : (e : ℕ) (h : Head) → (e ≡ 0 → ⊥) → Err e ≡ found_by e h
unfolding found_by
refused-by zero h n = absurd (n refl)
refused-by (suc e) h n = refl

pub sound-by : (h : Head) → Ok h ≡ found_by 0 h
unfolding found_by
sound-by h = refl

-- what the answer tells of the number
pub found-sound : (number : ℕ) (h : Head) {g : Head} → Ok g ≡ found_by number h → (number ≡ 0) × (g ≡ h)
unfolding found_by
found-sound zero h q = (refl, cc)
found-sound (suc e) h q = let z : ◌≡◌ {A = ℕ} 0 1 = cc in absurd (omega arith)

pub found-refused : (number : ℕ) (h : Head) {e : ℕ} → Err e ≡ found_by number h → (number ≡ e) × (0 < e)
unfolding found_by
found-refused zero h q = let z : ◌≡◌ {A = ℕ} 0 1 = cc in absurd (omega arith)
found-refused (suc n) h {e} q = let s : suc n ≡ e = cc in (s, omega arith)
