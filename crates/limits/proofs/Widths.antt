-- The width of an item that is not eight, four or two bytes wide. Assumes nothing.
use Prim.Native.Nat.{ℕ}
use mathlib.Core.Bool.{Bool, true, false, ◌||◌}
use mathlib.Core.Path.{◌≡◌, refl}
use lib.Dec.{eqb}
use borrow.Author.Tests.{eqb-true, ne_eqb}
use Rattle.limits.specs.Limits.{is_width}

pub narrowest : (w : ℕ) → is_width w ≡ true → (w ≡ 8 → ⊥) → (w ≡ 4 → ⊥) → (w ≡ 2 → ⊥) → w ≡ 1
narrowest w h a b c = eqb-true w 1 (go (eqb w 1) (rw (ne_eqb w 8 a, ne_eqb w 4 b, ne_eqb w 2 c) at h))
  where
    go : (t : Bool) → (t || false || false || false) ≡ true → t ≡ true
    go true g = refl
    go false g = g
