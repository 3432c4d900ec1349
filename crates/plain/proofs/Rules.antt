-- Rules one after another, of which none is broken. Assumes nothing.
use Prim.Native.Nat.{ℕ, zero, suc, ◌<◌}
use native.Mathlib.Omega.{arith}
use mathlib.Core.Bool.{Bool, true, false}
use mathlib.Core.List.{List, ◌∷◌}
use mathlib.Core.Path.{◌≡◌, refl}
use Rattle.plain.specs.Rules.{◌if◌, first_of}

-- a rule that is kept, and the rules behind it
pub kept : (e : ℕ) (es : List ℕ) → first_of (e ∷ es) ≡ 0 → (e ≡ 0) × (first_of es ≡ 0)
unfolding first_of
kept zero es h = (refl, h)
kept (suc e) es h = absurd (omega arith)

pub whole : (e : ℕ) (t : Bool) → 0 < e → e if t ≡ 0 → t ≡ false
whole e true p h = absurd (omega arith)
whole e false p h = refl
