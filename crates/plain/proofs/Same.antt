-- Rows that are the same as given are equal, either way round, and a row is the same as itself. Assumes nothing.
use Prim.Native.Nat.{ℕ}
use native.Mathlib.Omega.{arith}
use mathlib.Core.Bool.{Bool, true, false, and-eq-true_iff}
use mathlib.Core.List.{List, [], ◌∷◌}
use mathlib.Core.Path.{◌≡◌, refl, sym, ap, ◌∙◌}
use lib.Dec.{eqb}
use lib.IntN.{ℤ, pos, negsuc}
use borrow.Author.Tests.{eqb-true, eq-eqb}
use Rattle.plain.specs.Rows.{Row, null, int, bytes, same_int, same_bytes, same}

-- a test that fails proves nothing
never : {A : Type 0} → ◌≡◌ {A = ℕ} 0 1 → A
never z = absurd (omega arith)

same_int_lem : (u v : ℤ) → same_int u v ≡ true → u ≡ v
unfolding same_int
same_int_lem (pos m) (pos n) h = ap pos (eqb-true m n h)
same_int_lem (pos m) (negsuc n) h = never cc
same_int_lem (negsuc m) (pos n) h = never cc
same_int_lem (negsuc m) (negsuc n) h = ap negsuc (eqb-true m n h)

same_bytes_lem : (s t : List ℕ) → same_bytes s t ≡ true → s ≡ t
unfolding same_bytes
same_bytes_lem [] [] h = refl
same_bytes_lem [] (b ∷ t) h = never cc
same_bytes_lem (a ∷ s) [] h = never cc
same_bytes_lem (a ∷ s) (b ∷ t) h =
    let p = (and-eq-true_iff (eqb a b) (same_bytes s t)).0 h in
    ap (λ (x : ℕ). x ∷ s) (eqb-true a b p.0) ∙ ap (λ (l : List ℕ). b ∷ l) (same_bytes_lem s t p.1)

pub same-equal : (r x : Row) → same r x ≡ true → r ≡ x
unfolding same
same-equal null null h = refl
same-equal null (int v) h = never cc
same-equal null (bytes bs) h = never cc
same-equal (int u) null h = never cc
same-equal (int u) (int v) h = ap int (same_int_lem u v h)
same-equal (int u) (bytes bs) h = never cc
same-equal (bytes cs) null h = never cc
same-equal (bytes cs) (int v) h = never cc
same-equal (bytes cs) (bytes bs) h = ap bytes (same_bytes_lem cs bs h)

self-int : (v : ℤ) → same_int v v ≡ true
unfolding same_int
self-int (pos n) = eq-eqb n n refl
self-int (negsuc n) = eq-eqb n n refl

self-bytes : (s : List ℕ) → same_bytes s s ≡ true
unfolding same_bytes
self-bytes [] = refl
self-bytes (b ∷ s) = simp (eq-eqb b b refl) (self-bytes s)

pub same_self : (r : Row) → same r r ≡ true
unfolding same
same_self null = refl
same_self (int v) = self-int v
same_self (bytes bs) = self-bytes bs

-- either way round
pub same-sym : (x y : Row) → same x y ≡ same y x
same-sym x y = go (same x y) (same y x) refl refl
  where
    go : (s t : Bool) → same x y ≡ s → same y x ≡ t → s ≡ t
    go true true p q = refl
    go false false p q = refl
    go true false p q = let f : ◌≡◌ {A = Bool} false true = sym q ∙ ap (λ (z : Row). same y z) (same-equal x y p) ∙ same_self y in never cc
    go false true p q = let f : ◌≡◌ {A = Bool} false true = sym p ∙ ap (λ (z : Row). same x z) (same-equal y x q) ∙ same_self x in never cc
