-- Sums over sixteen bytes: what the loops keep, and that a sum of two lists is that of both. Assumes nothing.
use Prim.Native.Nat.{ℕ, suc, ◌+◌, ◌-◌, ◌*◌, ◌≤◌, ◌<◌}
use native.Mathlib.Nat.{add-zero, zero-add, suc-mul}
use native.Mathlib.Numerals.{add-one}
use native.Mathlib.Omega.{arith}
use mathlib.Core.Bool.{Bool, true, false, cond, ◌&&◌}
use mathlib.Core.List.{List, [], ◌∷◌, ◌++◌}
use mathlib.Core.Path.{◌≡◌, sym}
use lib.Dec.{ltb}
use lib.ListN.{length, get_or, take, drop}
use lib.Seq.{drop-cons}
use borrow.Author.Tests.{lt-ltb, le-ltb}
use Rattle.shorts.specs.Shorts.{sum_by, shortness}

pub sum-append : (f : ℕ → ℕ) (xs ys : List ℕ) → sum_by f (xs ++ ys) ≡ sum_by f xs + sum_by f ys
unfolding sum_by
sum-append f [] ys = sym (zero-add (sum_by f ys))
sum-append f (x ∷ xs) ys = rw (sum-append f xs ys) (omega arith)

-- what is added so far and what is left make up the whole; and each byte adds at most so much
pub record Adding (f : ℕ → ℕ) (most : ℕ) (s : List ℕ) (at found i : ℕ) : Type 0 where
  pub rest : found + sum_by f (take (16 - i) (drop (at + i) s)) ≡ sum_by f (take 16 (drop at s))
  pub small : found ≤ i * most
  pub sound : i ≤ 16

pub adding-start : (f : ℕ → ℕ) (most : ℕ) (s : List ℕ) (at : ℕ) → Adding f most s at 0 0
adding-start f most s at = record { rest = rw add-zero (omega arith); small = omega arith; sound = omega arith }

module _ {f : ℕ → ℕ} {most : ℕ} {s : List ℕ} {at found i : ℕ} (g : Adding f most s at found i) where
  pub adding-step : i < 16 → at + i < length s → {one : ℕ} → one ≡ f (get_or s (at + i) 0) → one ≤ most → Adding f most s at (found + one) (i + 1)
  unfolding sum_by
  adding-step h b {one} q few =
      let x : ℕ = get_or s (at + i) 0 in
      let rest : ℕ = sum_by f (take (16 - (i + 1)) (drop (at + (i + 1)) s)) in
      let e : 16 - i ≡ suc (16 - (i + 1)) = omega arith in
      let p : suc (at + i) ≡ at + (i + 1) = omega arith in
      let c : take (16 - i) (drop (at + i) s) ≡ x ∷ take (16 - (i + 1)) (drop (at + (i + 1)) s) = rw (drop-cons s (at + i) 0 b, e, p) in
      let r : found + (f x + rest) ≡ sum_by f (take 16 (drop at s)) = rw c at g.rest in
      let m : (i + 1) * most ≡ i * most + most = rw add-one (suc-mul i most) in
      record { rest = omega (arith, q); small = omega (arith, g.small); sound = omega arith }

  pub adding-end : 16 ≤ i → found ≡ sum_by f (take 16 (drop at s))
  unfolding sum_by
  adding-end h =
      let z : 16 - i ≡ 0 = omega arith in
      let r : found + 0 ≡ sum_by f (take 16 (drop at s)) = rw z at g.rest in
      omega arith

-- ---- a byte counts for one if it is short
pub shortness-small : (b : ℕ) → shortness b ≤ 1
unfolding shortness
shortness-small b = go (ltb 0 b && ltb b 128)
  where
    go : (t : Bool) → cond t 1 0 ≤ 1
    go true = omega arith
    go false = omega arith

pub none-short : (b : ℕ) → b ≡ 0 → 0 ≡ shortness b
unfolding shortness
none-short b h = rw h

pub one-short : (b : ℕ) → (b ≡ 0 → ⊥) → b < 128 → 1 ≡ shortness b
unfolding shortness
one-short b h l = let some : 0 < b = omega arith in simp (lt-ltb 0 b some, lt-ltb b 128 l)

pub long-not-short : (b : ℕ) → (b ≡ 0 → ⊥) → 128 ≤ b → 0 ≡ shortness b
unfolding shortness
long-not-short b h l = let some : 0 < b = omega arith in simp (lt-ltb 0 b some, le-ltb b 128 l)
