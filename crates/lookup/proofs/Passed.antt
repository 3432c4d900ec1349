-- A loop over n places that has passed the first i of them: what is left decides the answer. One law for every loop of finding, and what one place
-- makes of the two answers. Assumes nothing.
use Prim.Native.Nat.{ℕ, zero, suc, ◌+◌, ◌-◌, ◌≤◌, ◌<◌}
use native.Mathlib.Numerals.{add-one}
use native.Mathlib.Omega.{arith}
use mathlib.Core.Path.{◌≡◌, refl, sym, ap, ◌∙◌}
use mathlib.Core.Bool.{Bool, true, false, cond}
use mathlib.Core.List.{List, [], ◌∷◌}
use lib.IntN.{ℤ}
use Rattle.encode.specs.declared.Kind.{Kind}
use Rattle.encode.specs.declared.Kind.TheVariants.{Fixed}
use Rattle.encode.specs.declared.Primitive.{Primitive}
use Rattle.plain.specs.Rows.{Row, int, same_int, same}
use Rattle.plain.specs.Plain.{places, fixed_at}
use Rattle.std.specs.Prelude.{Option, Some, None}
use Rattle.lookup.specs.Held.{Held, held_row, field_wrong, look_from, look_up}
use Rattle.lookup.specs.First.{first_at, first_value}

-- ---- any answer
pub record Passed {A : Type 0} (answer : List ℕ → A) (n i : ℕ) : Type 0 where
  pub rest : answer (places (n - i) i) ≡ answer (places n 0)
  pub sound : i ≤ n

pub passed_start : {A : Type 0} (answer : List ℕ → A) (n : ℕ) → Passed answer n 0
passed_start answer n =
    let z : n - 0 ≡ n = omega arith in
    record { rest = ap (λ (m : ℕ). answer (places m 0)) z; sound = omega arith }

module _ {A : Type 0} {answer : List ℕ → A} {n i : ℕ} (g : Passed answer n i) where
  module _ (h : i < n) where
    next : places (n - i) i ≡ i ∷ places (n - (i + 1)) (i + 1)
    unfolding places
    next = let z : n - i ≡ suc (n - (i + 1)) = omega arith in rw (z, add-one)

    -- place i decides
    pub passed-stop : {x : A} → ((is : List ℕ) → x ≡ answer (i ∷ is)) → x ≡ answer (places n 0)
    passed-stop d = d (places (n - (i + 1)) (i + 1)) ∙ ap answer (sym next) ∙ g.rest

    -- place i is passed over
    pub passed-step : ((is : List ℕ) → answer (i ∷ is) ≡ answer is) → Passed answer n (i + 1)
    passed-step d = record {
      rest = sym (d (places (n - (i + 1)) (i + 1))) ∙ ap answer (sym next) ∙ g.rest;
      sound = omega arith;
    }

  pub passed-end : n ≤ i → answer [] ≡ answer (places n 0)
  unfolding places
  passed-end h = let z : n - i ≡ 0 = omega arith in ap (λ (m : ℕ). answer (places m i)) (sym z) ∙ g.rest

-- ---- the first place at which a test holds
module _ (test : ℕ → Bool) (n i : ℕ) where
  pub first-here : test i ≡ true → (is : List ℕ) → i ≡ first_at test n (i ∷ is)
  unfolding first_at
  first-here h is = ap (λ (t : Bool). cond t i (first_at test n is)) (sym h)

  pub first-later : test i ≡ false → (is : List ℕ) → first_at test n (i ∷ is) ≡ first_at test n is
  unfolding first_at
  first-later h is = ap (λ (t : Bool). cond t i (first_at test n is)) h

-- two tests that agree at each of the places
pub first_alike : (f g : ℕ → Bool) (n m i : ℕ) → ((k : ℕ) → i ≤ k → k < i + m → f k ≡ g k) → first_at f n (places m i) ≡ first_at g n (places m i)
unfolding first_at places
first_alike f g n zero i h = refl
first_alike f g n (suc m) i h =
    ap (λ (t : Bool). cond t i (first_at f n (places m (suc i)))) (h i (omega arith) (omega arith))
    ∙ ap (cond (g i) i) (first_alike f g n m (suc i) (λ k a b. h k (omega arith) (omega arith)))

pub first-none : (test : ℕ → Bool) (n m i : ℕ) → ((k : ℕ) → i ≤ k → k < i + m → test k ≡ false) → n ≡ first_at test n (places m i)
unfolding first_at places
first-none test n zero i h = refl
first-none test n (suc m) i h =
    first-none test n m (suc i) (λ k a b. h k (omega arith) (omega arith))
    ∙ ap (λ (t : Bool). cond t i (first_at test n (places m (suc i)))) (sym (h i (omega arith) (omega arith)))

-- ---- the lookup: the items passed have good fields and are not the row
pub record Looking (k : Kind) (n len : ℕ) (h : Held) (row : Row) (i : ℕ) : Type 0 where
  pub passed : Passed (look_from k n len h row) n i

pub looking-start : (k : Kind) (n len : ℕ) (h : Held) (row : Row) → Looking k n len h row 0
looking-start k n len h row = record { passed = passed_start (look_from k n len h row) n }

module _ {k : Kind} {n len : ℕ} {h : Held} {row : Row} {i : ℕ} (g : Looking k n len h row i) where
  module _ (l : i < n) where
    pub looking-wrong : field_wrong k n len h i ≡ true → None ≡ look_up k n len h row
    unfolding look_up look_from
    looking-wrong w = passed-stop g.passed l (λ is. ap (λ (t : Bool). cond t None (cond (same row (held_row k h i)) (Some i) (look_from k n len h row is))) (sym w))

    module _ (w : field_wrong k n len h i ≡ false) where
      good : (is : List ℕ) → look_from k n len h row (i ∷ is) ≡ cond (same row (held_row k h i)) (Some i) (look_from k n len h row is)
      unfolding look_from
      good is = ap (λ (t : Bool). cond t None (cond (same row (held_row k h i)) (Some i) (look_from k n len h row is))) w

      pub looking-here : same row (held_row k h i) ≡ true → Some i ≡ look_up k n len h row
      unfolding look_up
      looking-here s = passed-stop g.passed l (λ is. sym (good is ∙ ap (λ (t : Bool). cond t (Some i) (look_from k n len h row is)) s))

      pub looking-step : same row (held_row k h i) ≡ false → Looking k n len h row (i + 1)
      looking-step s = record { passed = passed-step g.passed l (λ is. good is ∙ ap (λ (t : Bool). cond t (Some i) (look_from k n len h row is)) s) }

  pub looking-end : n ≤ i → Some n ≡ look_up k n len h row
  unfolding look_up look_from
  looking-end e = passed-end g.passed e

-- two that hold the same items with the same fields
look-alike :
    (k k' : Kind) (n len len' : ℕ) (h h' : Held) (row : Row) → ((i : ℕ) → field_wrong k n len h i ≡ field_wrong k' n len' h' i)
    → ((i : ℕ) → held_row k h i ≡ held_row k' h' i) → (is : List ℕ) → look_from k n len h row is ≡ look_from k' n len' h' row is
unfolding look_from
look-alike k k' n len len' h h' row w r [] = refl
look-alike k k' n len len' h h' row w r (i ∷ is) =
    ap (λ (x : Bool). cond x None (cond (same row (held_row k h i)) (Some i) (look_from k n len h row is))) (w i)
    ∙ ap (λ (y : Row). cond (field_wrong k' n len' h' i) None (cond (same row y) (Some i) (look_from k n len h row is))) (r i)
    ∙ ap (λ (z : Option ℕ). cond (field_wrong k' n len' h' i) None (cond (same row (held_row k' h' i)) (Some i) z)) (look-alike k k' n len len' h h' row w r is)

pub up-alike :
    (k k' : Kind) (n len len' : ℕ) (h h' : Held) (row : Row) → ((i : ℕ) → field_wrong k n len h i ≡ field_wrong k' n len' h' i)
    → ((i : ℕ) → held_row k h i ≡ held_row k' h' i) → look_up k n len h row ≡ look_up k' n len' h' row
unfolding look_up
up-alike k k' n len len' h h' row w r = look-alike k k' n len len' h h' row w r _

-- no field of a fixed kind is wrong: the lookup is the first item of the value
from_first : (p : Primitive) (n len : ℕ) (h : Held) (v : ℤ) (is : List ℕ)
    → Some (first_at (λ (i : ℕ). same_int v (fixed_at p h.items i)) n is) ≡ look_from (Fixed p) n len h (int v) is
unfolding look_from first_at field_wrong held_row same
from_first p n len h v [] = refl
from_first p n len h v (i ∷ is) = by (same_int v (fixed_at p h.items i)) (from_first p n len h v is)
  where
    by : (t : Bool) → Some (first_at (λ (j : ℕ). same_int v (fixed_at p h.items j)) n is) ≡ look_from (Fixed p) n len h (int v) is
        → Some (cond t i (first_at (λ (j : ℕ). same_int v (fixed_at p h.items j)) n is)) ≡ cond t (Some i) (look_from (Fixed p) n len h (int v) is)
    by true q = refl
    by false q = q

pub up_first : (p : Primitive) (n len : ℕ) (h : Held) (v : ℤ) → Some (first_value p h.items n v) ≡ look_up (Fixed p) n len h (int v)
unfolding look_up first_value
up_first p n len h v = from_first p n len h v (places n 0)
