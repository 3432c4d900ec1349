-- What `kind_of` says on each way through the tests of its number and its width. Assumes nothing.
use mathlib.Core.Path.{◌≡◌, ap, ◌∙◌, sym}
use Prim.Native.Nat.{ℕ, ◌≤◌, ◌<◌}
use borrow.Author.Tests.{lt-ltb, le-ltb, eq-eqb, ne_eqb}
use Rattle.std.specs.Prelude.{Some, None}
use Rattle.limits.specs.Limits.{MOST_WIDTH}
use Rattle.encode.specs.Kinds.{numbered, kind_of}
use Rattle.encode.specs.declared.Kind.TheVariants.{Char}

-- the number and the width are known: then `kind_of` computes
pub numbers : (j i : ℕ) {k w : ℕ} → k ≡ j → w ≡ i → kind_of j i ≡ kind_of k w
numbers j i {k} {w} p q = ap (λ (x : ℕ). kind_of x i) (sym p) ∙ ap (kind_of k) (sym q)

-- a char's width
module _ (k w : ℕ) (is : k ≡ 8) (some : w ≡ 0 → ⊥) where
  pub char-above : MOST_WIDTH < w → None ≡ kind_of k w
  unfolding kind_of
  char-above h = simp (eq-eqb k 8 is, ne_eqb w 0 some, lt-ltb MOST_WIDTH w h)

  pub char-within : w ≤ MOST_WIDTH → Some (Char w) ≡ kind_of k w
  unfolding kind_of
  char-within h = simp (eq-eqb k 8 is, ne_eqb w 0 some, le-ltb MOST_WIDTH w h)

-- no char
module _ (k w : ℕ) (other : k ≡ 8 → ⊥) where
  pub width-refused : (w ≡ 0 → ⊥) → None ≡ kind_of k w
  unfolding kind_of
  width-refused h = simp (ne_eqb k 8 other, ne_eqb w 0 h)

  pub number-refused :
      w ≡ 0 → (n0 : k ≡ 0 → ⊥) (n1 : k ≡ 1 → ⊥) (n2 : k ≡ 2 → ⊥) (n3 : k ≡ 3 → ⊥) (n4 : k ≡ 4 → ⊥) (n5 : k ≡ 5 → ⊥)
      (n6 : k ≡ 6 → ⊥) (n7 : k ≡ 7 → ⊥) (n9 : k ≡ 9 → ⊥) (n10 : k ≡ 10 → ⊥) (n11 : k ≡ 11 → ⊥) → None ≡ kind_of k w
  unfolding kind_of numbered
  number-refused h n0 n1 n2 n3 n4 n5 n6 n7 n9 n10 n11 =
      simp (
        ne_eqb k 8 other,
        eq-eqb w 0 h,
        ne_eqb k 0 n0,
        ne_eqb k 1 n1,
        ne_eqb k 2 n2,
        ne_eqb k 3 n3,
        ne_eqb k 4 n4,
        ne_eqb k 5 n5,
        ne_eqb k 6 n6,
        ne_eqb k 7 n7,
        ne_eqb k 9 n9,
        ne_eqb k 10 n10,
        ne_eqb k 11 n11,
      )
