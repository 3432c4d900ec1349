-- A count that was read lies within its list: it has one to five bytes, all there, and its number is of 32 bits. Assumes nothing.
use Rattle.std.specs.Prelude.{Option, Some, None}
use Prim.Native.Nat.{ℕ, zero, suc, ◌+◌, ◌-◌, ◌*◌, ◌^◌, ◌≤◌, ◌<◌}
use native.Mathlib.Omega.{arith}
use mathlib.Core.Bool.{Bool, true, false, cond}
use mathlib.Core.List.{List, [], ◌∷◌}
use mathlib.Core.Path.{◌≡◌, refl, sym, subst}
use lib.Dec.{ltb, eqb}
use lib.ListN.{length, drop, length-drop}
use borrow.Author.Tests.{ltb-true, eqb-false}
use Rattle.varint.specs.declared.Count.{Count}
use Rattle.varint.specs.Varint.{counted, more, count_within, in_32_bits, count_of, count_at}

-- what one byte more comes to: no number, or one whose rest is above 0
pub more-cases : (P : Option Count → Type 0) (low v n : ℕ) → P None → (0 < v → P (counted (low + 128 * v) (n + 1))) → P (more low (counted v n))
unfolding more
more-cases P low v n bad number = go (eqb v 0) refl
  where
    go : (t : Bool) → eqb v 0 ≡ t → P (cond t None (counted (low + 128 * v) (n + 1)))
    go true e = bad
    go false e = number (let z = eqb-false v 0 e in omega arith)

-- of a number: it takes at least one byte, and no more than are allowed or there; of none nothing is said
abbrev Sized : ℕ → ℕ → Option Count → Type 0
Sized k m (Some c) = (1 ≤ c.len) × (c.len ≤ k) × (c.len ≤ m)
Sized k m None = Unit

sized-more : (low k m : ℕ) (r : Option Count) → Sized k m r → Sized (suc k) (suc m) (more low r)
unfolding more
sized-more low k m (Some c) h = more-cases (Sized (suc k) (suc m)) low c.value c.len tt (λ z. omega arith)
sized-more low k m None h = tt

sized-within : (k : ℕ) (s : List ℕ) → Sized k (length s) (count_within k s)
unfolding count_within
sized-within zero s = tt
sized-within (suc k) [] = tt
sized-within (suc k) (b ∷ s) = go (sized-within k s) (ltb b 128)
  where
    go : Sized k (length s) (count_within k s) → (t : Bool) → Sized (suc k) (suc (length s)) (cond t (counted b 1) (more (b - 128) (count_within k s)))
    go ih true = omega arith
    go ih false = sized-more (b - 128) k (length s) (count_within k s) ih

-- what `in_32_bits` lets pass is as before, and of 32 bits
abbrev Small : Option Count → Type 0
Small (Some c) = c.value < 2 ^ 32
Small None = Unit

in32-sized : (k m : ℕ) (r : Option Count) → Sized k m r → Sized k m (in_32_bits r)
unfolding in_32_bits
in32-sized k m (Some c) h = go (ltb c.value (2 ^ 32))
  where
    go : (t : Bool) → Sized k m (cond t (Some c) None)
    go true = h
    go false = tt
in32-sized k m None h = tt

in32-small : (r : Option Count) → Small (in_32_bits r)
unfolding in_32_bits
in32-small (Some c) = go (ltb c.value (2 ^ 32)) refl
  where
    go : (t : Bool) → ltb c.value (2 ^ 32) ≡ t → Small (cond t (Some c) None)
    go true e = ltb-true _ _ e
    go false e = tt
in32-small None = tt

-- ---- the laws
module _ (s : List ℕ) (v n : ℕ) (e : counted v n ≡ count_of s) where
  sized : Sized 5 (length s) (counted v n)
  unfolding count_of
  sized = subst (λ (r : Option Count). Sized 5 (length s) r) (sym e) (in32-sized _ _ _ (sized-within 5 s))

  pub count-within : (1 ≤ n) × (n ≤ length s)
  count-within = (sized.0, sized.2)

  pub count-short : n ≤ 5
  count-short = sized.1

  pub count_small : v < 2 ^ 32
  unfolding count_of
  count_small = subst (λ (r : Option Count). Small r) (sym e) (in32-small _)

-- ---- and at a place
module _ (s : List ℕ) (at v n : ℕ) (e : counted v n ≡ count_at s at) where
  pub at-within : at ≤ length s → (1 ≤ n) × (at + n ≤ length s)
  unfolding count_at
  at-within h = omega (arith, count-within (drop at s) v n e, length-drop at s)

  pub at-short : n ≤ 5
  unfolding count_at
  at-short = count-short (drop at s) v n e

  pub at_small : v < 2 ^ 32
  unfolding count_at
  at_small = count_small (drop at s) v n e
