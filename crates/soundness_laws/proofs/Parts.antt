-- A list in four parts, of which the first two have fixed lengths: what is read at each place, and how a list is cut. Assumes nothing.
use Prim.Native.Nat.{ℕ, ◌+◌}
use native.Mathlib.Omega.{arith}
use mathlib.Core.List.{List, ◌++◌, append_assoc}
use mathlib.Core.Path.{◌≡◌, refl, sym, ap, ◌∙◌}
use lib.ListN.{length, take, drop, length-append, take-append-drop}
use lib.Seq.{take_at, drop_at, drop-drop}

pub record Laid (i j : ℕ) (b p q x y : List ℕ) : Type 0 where
  pub whole : b ≡ p ++ q ++ x ++ y
  pub first : length p ≡ i
  pub second : length q ≡ j

module _ {i j : ℕ} {b p q x y : List ℕ} (l : Laid i j b p q x y) where
  from_first : b ≡ p ++ (q ++ (x ++ y))
  from_first = l.whole ∙ append_assoc (p ++ q) x y ∙ append_assoc p q (x ++ y)

  from_second : drop i b ≡ q ++ (x ++ y)
  from_second = ap (drop i) from_first ∙ drop_at p (q ++ (x ++ y)) i l.first

  from-third : drop (i + j) b ≡ x ++ y
  from-third = sym (drop-drop j i b) ∙ ap (drop j) from_second ∙ drop_at q (x ++ y) j l.second

  pub first_part : take i b ≡ p
  first_part = ap (take i) from_first ∙ take_at p (q ++ (x ++ y)) i l.first

  pub second-part : take j (drop i b) ≡ q
  second-part = ap (take j) from_second ∙ take_at q (x ++ y) j l.second

  pub third-part : take (length x) (drop (i + j) b) ≡ x
  third-part = ap (take (length x)) from-third ∙ take_at x y (length x) refl

  pub last-part : drop (i + j + length x) b ≡ y
  last-part = sym (drop-drop (length x) (i + j) b) ∙ ap (drop (length x)) from-third ∙ drop_at x y (length x) refl

  pub length-parts : length b ≡ i + j + length x + length y
  length-parts =
      ap length l.whole ∙ length-append (p ++ q ++ x) y
      ∙ omega (arith, length-append (p ++ q) x, length-append p q)

pub in_parts : (b : List ℕ) (i j k : ℕ) → b ≡ take i b ++ take j (drop i b) ++ take k (drop (i + j) b) ++ drop (i + j + k) b
in_parts b i j k =
    let third : drop (i + j) b ≡ take k (drop (i + j) b) ++ drop (i + j + k) b
    = sym (take-append-drop k (drop (i + j) b)) ∙ ap (λ (l : List ℕ). take k (drop (i + j) b) ++ l) (drop-drop k (i + j) b) in
    let second : drop i b ≡ take j (drop i b) ++ drop (i + j) b
    = sym (take-append-drop j (drop i b)) ∙ ap (λ (l : List ℕ). take j (drop i b) ++ l) (drop-drop j i b) in
    sym (take-append-drop i b)
    ∙ ap (λ (l : List ℕ). take i b ++ l) second
    ∙ sym (append_assoc (take i b) (take j (drop i b)) (drop (i + j) b))
    ∙ ap (λ (l : List ℕ). take i b ++ take j (drop i b) ++ l) third
    ∙ sym (append_assoc (take i b ++ take j (drop i b)) (take k (drop (i + j) b)) (drop (i + j + k) b))
