-- Laws of lent areas for the crates above: what is laid over an area, piece by piece and at once. Assumes nothing.
use Prim.Native.Nat.{ℕ, zero, suc, ◌+◌, ◌*◌, ◌≤◌, ◌<◌}
use native.Mathlib.Nat.{add-zero, suc-mul, zero-mul}
use native.Mathlib.Omega.{arith}
use mathlib.Core.Bool.{Bool, true, false}
use mathlib.Core.Logic.{◌⊎◌, inl, inr}
use mathlib.Core.Path.{◌≡◌, refl, sym, ap, ◌∙◌}
use mathlib.Core.List.{List, [], ◌∷◌, ◌++◌, append-nil}
use lib.Dec.{ltb}
use lib.ListN.{length, set, length-append, take-append-drop}
use lib.Seq.{sets, sets-eq, length-sets}
use borrow.Author.Tests.{ltb-true, ltb-false}
use Rattle.area.specs.Area.{over, repeats, climbs}

pub lt-or-ge : (a b : ℕ) → (a < b) ⊎ (b ≤ a)
lt-or-ge a b = go (ltb a b) refl
  where
    go : (t : Bool) → ltb a b ≡ t → (a < b) ⊎ (b ≤ a)
    go true e = inl (ltb-true a b e)
    go false e = inr (ltb-false a b e)

-- ---- writing element by element
module _ {A : Type 0} where
  pub sets-none : (d : List A) (i : ℕ) → sets d i [] ≡ d
  sets-none d i = refl

  pub sets-append : (xs ys d : List A) (i : ℕ) → sets d i (xs ++ ys) ≡ sets (sets d i xs) (i + length xs) ys
  sets-append [] ys d i = rw add-zero
  sets-append (x ∷ xs) ys d i = let m : i + suc (length xs) ≡ suc i + length xs = omega arith in rw m (sets-append xs ys (set d i x) (suc i))

  -- ---- the same at once
  pub over-sets : (vs d : List A) (i : ℕ) → i + length vs ≤ length d → sets d i vs ≡ over d i vs
  unfolding over
  over-sets vs d i h = sets-eq vs d i h

  pub over-length : (vs d : List A) (i : ℕ) → i + length vs ≤ length d → length (over d i vs) ≡ length d
  over-length vs d i h = ap length (sym (over-sets vs d i h)) ∙ length-sets d i vs

  -- at any place, also past the end
  pub over_none : (d : List A) (i : ℕ) → over d i [] ≡ d
  unfolding over
  over_none d i = rw (add-zero, append-nil) (take-append-drop i d)

-- ---- how long what is written is
pub length-climbs : (m start step : ℕ) → length (climbs m start step) ≡ m
unfolding climbs
length-climbs zero start step = refl
length-climbs (suc m) start step = ap suc (length-climbs m (start + step) step)

pub length-repeats : (m : ℕ) (xs : List ℕ) → length (repeats m xs) ≡ m * length xs
unfolding repeats
length-repeats zero xs = rw zero-mul
length-repeats (suc m) xs = rw (length-append xs (repeats m xs), length-repeats m xs, suc-mul) (omega arith)
