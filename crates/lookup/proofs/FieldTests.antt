-- The fields of a stored item, on each way through the code of fields. Assumes nothing.
use Prim.Native.Nat.{ℕ, zero, suc, ◌+◌, ◌-◌, ◌≤◌, ◌<◌}
use native.Mathlib.Omega.{arith}
use mathlib.Core.Path.{◌≡◌, refl, sym, ap, ◌∙◌}
use mathlib.Core.Bool.{true, false, not}
use mathlib.Core.List.{List, []}
use lib.Dec.{ltb, eqb}
use lib.ListN.{get_or}
use borrow.Author.Tests.{lt-ltb, le-ltb, eq-eqb, ne_eqb}
use Rattle.encode.specs.Kinds.{blob}
use Rattle.lookup.specs.Held.{held, item_end, item_start, field_wrong}
use Rattle.encode.proofs.Bools.{or-first, or-then, or-none, and_then, and-not}

pub start_none : (ends : List ℕ) (i : ℕ) → i ≡ 0 → 0 ≡ item_start ends i
unfolding item_start
start_none ends i q = ap (item_start ends) (sym q)

pub start-some : (ends : List ℕ) (i : ℕ) → (i ≡ 0 → ⊥) → {x : ℕ} → x ≡ item_end ends (i - 1) → x ≡ item_start ends i
unfolding item_start
start-some ends zero h q = absurd (h refl)
start-some ends (suc i) h q = let z : suc i - 1 ≡ i = omega arith in q ∙ ap (λ (j : ℕ). get_or ends j 0) z

-- an item starts where the one before it ends
pub start-next : (ends : List ℕ) (i : ℕ) {x : ℕ} → x ≡ item_end ends i → x ≡ item_start ends (i + 1)
unfolding item_start
start-next ends i q = let z : suc i ≡ i + 1 = omega arith in q ∙ ap (item_start ends) z

module _ (n len : ℕ) (ends : List ℕ) (i : ℕ) {e s : ℕ} (p : e ≡ item_end ends i) (q : s ≡ item_start ends i) where
  pub wrong-falls : e < s → true ≡ field_wrong blob n len (held [] ends []) i
  unfolding field_wrong
  wrong-falls h = or-first _ (sym (or-first _ (sym (sym (lt-ltb e s h) ∙ ap (ltb e) q ∙ ap (λ (x : ℕ). ltb x (item_start ends i)) p))))

  module _ (h : s ≤ e) where
    rises : ltb (item_end ends i) (item_start ends i) ≡ false
    rises = sym (ap (ltb e) q ∙ ap (λ (x : ℕ). ltb x (item_start ends i)) p) ∙ le-ltb e s h

    pub wrong-passes : len < e → true ≡ field_wrong blob n len (held [] ends []) i
    unfolding field_wrong
    wrong-passes g = or-first _ (sym (or-then rises (sym (lt-ltb len e g) ∙ ap (ltb len) p)))

    module _ (g : e ≤ len) where
      inside : ltb len (item_end ends i) ≡ false
      inside = sym (ap (ltb len) p) ∙ le-ltb len e g

      pub wrong-last : i + 1 ≡ n → not (eqb e len) ≡ field_wrong blob n len (held [] ends []) i
      unfolding field_wrong
      wrong-last z =
          or-then (or-none rises inside)
          (ap (λ (x : ℕ). not (eqb x len)) p ∙ and_then {x = true} _ (sym (eq-eqb (suc i) n (omega (arith, z)))) refl)

      pub wrong-not : (i + 1 ≡ n → ⊥) → false ≡ field_wrong blob n len (held [] ends []) i
      unfolding field_wrong
      wrong-not z =
          or-then (or-none rises inside) (and-not {x = false} _ (sym (ne_eqb (suc i) n (λ y. z (omega (arith, y))))) refl)
