-- Equal as given: what the tests on integers and on bytes say of `same_int` and `same_bytes`. Assumes nothing.
use Prim.Native.Nat.{ℕ, suc, ◌+◌, ◌-◌, ◌≤◌, ◌<◌}
use native.Mathlib.Nat.{add-zero}
use native.Mathlib.Omega.{arith}
use mathlib.Core.Path.{◌≡◌, refl, sym, ap, subst, ◌∙◌}
use mathlib.Core.Bool.{Bool, true, false, ◌&&◌}
use mathlib.Core.List.{List, [], ◌∷◌}
use borrow.Author.Tests.{eqb-true, eqb-false, eq-eqb, ne_eqb}
use lib.Dec.{eqb}
use lib.IntN.{ℤ, pos, negsuc}
use lib.ListN.{length, take, drop, get_or, length-drop, drop_of_length-le}
use lib.Seq.{drop-cons, length-take-le}
use mir.Syntax.{Width}
use mir.Val.{SFits, of_z, to_z}
use mir.Facts.{to_z-of_z}
use Rattle.plain.specs.Rows.{same_int, same_bytes}

-- ---- integers
int-self : (v : ℤ) → same_int v v ≡ true
unfolding same_int
int-self (pos n) = eq-eqb n n refl
int-self (negsuc n) = eq-eqb n n refl

pub int_same : {u v : ℤ} → u ≡ v → same_int u v ≡ true
int_same {u} {v} e = subst (λ (x : ℤ). same_int u x ≡ true) e (int-self u)

pub int-other : (u v : ℤ) → (u ≡ v → ⊥) → same_int u v ≡ false
unfolding same_int
int-other (pos m) (pos n) h = ne_eqb m n (λ e. h (ap pos e))
int-other (pos m) (negsuc n) h = refl
int-other (negsuc m) (pos n) h = refl
int-other (negsuc m) (negsuc n) h = ne_eqb m n (λ e. h (ap negsuc e))

-- the code compares bits
pub int-bits : {w : Width} (u v : ℤ) → SFits w u → SFits w v → eqb (of_z w u) (of_z w v) ≡ same_int v u
int-bits {w} u v f g = by (eqb (of_z w u) (of_z w v)) refl
  where
    by : (x : Bool) → eqb (of_z w u) (of_z w v) ≡ x → x ≡ same_int v u
    by true h = sym (int_same (sym (to_z-of_z g) ∙ ap (to_z w) (sym (eqb-true (of_z w u) (of_z w v) h)) ∙ to_z-of_z f))
    by false h = sym (int-other v u (λ e. eqb-false (of_z w u) (of_z w v) h (ap (of_z w) (sym e))))

-- ---- bytes
lengths-other : (s t : List ℕ) → (length s ≡ length t → ⊥) → same_bytes s t ≡ false
unfolding same_bytes
lengths-other [] [] h = absurd (h refl)
lengths-other [] (b ∷ t) h = refl
lengths-other (a ∷ s) [] h = refl
lengths-other (a ∷ s) (b ∷ t) h = by (eqb a b) (lengths-other s t (λ e. h (ap suc e)))
  where
    by : (x : Bool) → same_bytes s t ≡ false → x && same_bytes s t ≡ false
    by true q = q
    by false q = refl

-- n bytes of s from a place on, next to t
module _ (s : List ℕ) (from n : ℕ) (t : List ℕ) (room : from + n ≤ length s) where
  pub length-other : (length t ≡ n → ⊥) → false ≡ same_bytes t (take n (drop from s))
  length-other h =
      let d : length (drop from s) ≡ length s - from = length-drop from s in
      let e : length (take n (drop from s)) ≡ n = length-take-le n (drop from s) (omega arith) in
      sym (lengths-other t (take n (drop from s)) (λ q. h (q ∙ e)))

-- the first i are equal: what is left decides
pub record Matching (s : List ℕ) (from n : ℕ) (t : List ℕ) (i : ℕ) : Type 0 where
  pub rest : same_bytes (drop i t) (take (n - i) (drop (from + i) s)) ≡ same_bytes t (take n (drop from s))
  pub sound : i ≤ n

pub matching-start : (s : List ℕ) (from n : ℕ) (t : List ℕ) → Matching s from n t 0
matching-start s from n t = let z : n - 0 ≡ n = omega arith in record { rest = rw (z, add-zero); sound = omega arith }

module _ {s : List ℕ} {from n : ℕ} {t : List ℕ} {i : ℕ} (room : from + n ≤ length s) (all : length t ≡ n) (g : Matching s from n t i) where
  module _ (h : i < n) where
    left : drop i t ≡ get_or t i 0 ∷ drop (i + 1) t
    left = let a : suc i ≡ i + 1 = omega arith in drop-cons t i 0 (omega arith) ∙ ap (λ (j : ℕ). get_or t i 0 ∷ drop j t) a

    right : take (n - i) (drop (from + i) s) ≡ get_or s (from + i) 0 ∷ take (n - (i + 1)) (drop (from + (i + 1)) s)
    right =
        let z : n - i ≡ suc (n - (i + 1)) = omega arith in
        let b : suc (from + i) ≡ from + (i + 1) = omega arith in
        rw (drop-cons s (from + i) 0 (omega arith), z, b)

    bytes : same_bytes (drop i t) (take (n - i) (drop (from + i) s)) ≡ (eqb (get_or t i 0) (get_or s (from + i) 0) && same_bytes (drop (i + 1) t) (take (n - (i + 1)) (drop (from + (i + 1)) s)))
    unfolding same_bytes
    bytes = ap (λ (l : List ℕ). same_bytes l (take (n - i) (drop (from + i) s))) left ∙ ap (same_bytes (get_or t i 0 ∷ drop (i + 1) t)) right

    pub matching-other : (get_or s (from + i) 0 ≡ get_or t i 0 → ⊥) → false ≡ same_bytes t (take n (drop from s))
    matching-other d =
        ap (λ (x : Bool). x && same_bytes (drop (i + 1) t) (take (n - (i + 1)) (drop (from + (i + 1)) s))) (sym (ne_eqb (get_or t i 0) (get_or s (from + i) 0) (λ e. d (sym e))))
        ∙ sym bytes
        ∙ g.rest

    pub matching-step : get_or s (from + i) 0 ≡ get_or t i 0 → Matching s from n t (i + 1)
    matching-step d = record {
      rest =
          ap (λ (x : Bool). x && same_bytes (drop (i + 1) t) (take (n - (i + 1)) (drop (from + (i + 1)) s))) (sym (eq-eqb (get_or t i 0) (get_or s (from + i) 0) (sym d)))
          ∙ sym bytes
          ∙ g.rest;
      sound = omega arith;
    }

  pub matching-all : n ≤ i → true ≡ same_bytes t (take n (drop from s))
  unfolding same_bytes
  matching-all h =
      let z : n - i ≡ 0 = omega arith in
      let e : drop i t ≡ [] = drop_of_length-le t {i = i} (omega arith) in
      rw (z, e) at g.rest
