-- Tests in a row, and a test under another. Assumes nothing.
use Prim.Native.Nat.{ℕ}
use native.Mathlib.Omega.{arith}
use mathlib.Core.Path.{◌≡◌, refl, sym, subst, ◌∙◌}
use mathlib.Core.Bool.{Bool, true, false, ◌&&◌, ◌||◌}

pub clash : {A : Type 0} → true ≡ false → A
clash e = let z : ◌≡◌ {A = ℕ} 0 1 = cc in absurd (omega arith)

pub or-first : {a : Bool} (b : Bool) → a ≡ true → true ≡ (a || b)
or-first {a} b h = subst (λ (x : Bool). true ≡ (x || b)) (sym h) refl

pub or-then : {a b t : Bool} → a ≡ false → t ≡ b → t ≡ (a || b)
or-then {a} {b} {t} h q = subst (λ (x : Bool). t ≡ (x || b)) (sym h) q

pub or-none : {a b : Bool} → a ≡ false → b ≡ false → (a || b) ≡ false
or-none {a} {b} h g = subst (λ (x : Bool). (x || b) ≡ false) (sym h) g

pub neither : (a b : Bool) → (a || b) ≡ false → (a ≡ false) × (b ≡ false)
neither true b h = clash h
neither false b h = (refl, h)

pub both : (a b : Bool) → (a && b) ≡ true → (a ≡ true) × (b ≡ true)
both true b h = (refl, h)
both false b h = clash (sym h)

pub and_then : {x a : Bool} (p : Bool) → x ≡ a → x ≡ true → p ≡ (a && p)
and_then {x} {a} p h t = subst (λ (y : Bool). p ≡ (y && p)) (sym t ∙ h) refl

pub and-not : {x a : Bool} (p : Bool) → x ≡ a → x ≡ false → false ≡ (a && p)
and-not {x} {a} p h t = subst (λ (y : Bool). false ≡ (y && p)) (sym t ∙ h) refl
