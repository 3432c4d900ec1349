-- Differences of lists that are put together, and of rows that are all the same. Assumes nothing.
use Prim.Native.Nat.{ℕ, zero, suc, ◌+◌}
use native.Mathlib.Nat.{zero-add, suc-add}
use native.Mathlib.Omega.{arith}
use mathlib.Core.Bool.{Bool, not}
use mathlib.Core.List.{List, [], ◌∷◌, ◌++◌}
use mathlib.Core.Path.{◌≡◌, refl, ap}
use lib.ListN.{length, replicate}
use Rattle.plain.specs.Rows.{Row, same}
use Rattle.in_step.specs.Differences.{differences}

pub differences-append : (xs ys us vs : List Row) → length xs ≡ length ys → differences (xs ++ us) (ys ++ vs) ≡ differences xs ys ++ differences us vs
unfolding differences
differences-append [] [] us vs h = refl
differences-append [] (y ∷ ys) us vs h = absurd (omega arith)
differences-append (x ∷ xs) [] us vs h = absurd (omega arith)
differences-append (x ∷ xs) (y ∷ ys) us vs h = ap (λ (l : List Bool). not (same x y) ∷ l) (differences-append xs ys us vs (omega arith))

pub differences-replicate : (m : ℕ) (x y : Row) → differences (replicate m x) (replicate m y) ≡ replicate m (not (same x y))
unfolding differences
differences-replicate zero x y = refl
differences-replicate (suc m) x y = ap (λ (l : List Bool). not (same x y) ∷ l) (differences-replicate m x y)

pub replicate-add : {A : Type 0} (m k : ℕ) (x : A) → replicate (m + k) x ≡ replicate m x ++ replicate k x
replicate-add zero k x = rw zero-add
replicate-add {A} (suc m) k x = rw suc-add (ap (λ (l : List A). x ∷ l) (replicate-add m k x))

pub length-differences : (xs ys : List Row) → length xs ≡ length ys → length (differences xs ys) ≡ length xs
unfolding differences
length-differences [] [] h = refl
length-differences [] (y ∷ ys) h = absurd (omega arith)
length-differences (x ∷ xs) [] h = absurd (omega arith)
length-differences (x ∷ xs) (y ∷ ys) h = ap suc (length-differences xs ys (omega arith))
