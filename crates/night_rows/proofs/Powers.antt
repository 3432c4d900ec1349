-- The powers of two that the loop of `compare_powers` meets are those that are due. Assumes nothing.
use Prim.Native.Nat.{ℕ, zero, suc, ◌+◌, ◌-◌, ◌*◌, ◌^◌, ◌≤◌, ◌<◌}
use native.Mathlib.Nat.{zero-add, pow-suc}
use native.Mathlib.Omega.{arith}
use mathlib.Core.Bool.{Bool, true, false, cond, ◌&&◌}
use mathlib.Core.List.{List, [], ◌∷◌}
use mathlib.Core.Logic.{⊎_elim}
use mathlib.Core.Path.{◌≡◌, refl, sym, ap, ◌∙◌}
use lib.Dec.{ltb, leb}
use lib.ListN.{length}
use borrow.Author.Tests.{lt-ltb, le-ltb, le-leb, lt-leb}
use Rattle.limits.specs.Limits.{MOST_ROWS}
use Rattle.area.proofs.Laws.{lt-or-ge}
use Rattle.plain.specs.Plain.{places}
use Rattle.night_rows.specs.Night.{powers_among}

-- ---- one power
abbrev one-if : Bool → ℕ
one-if t = cond t 1 0

counted : (a b : Bool) → a ≡ true → b ≡ true → one-if (a && b) ≡ 1
counted a b p q = rw (p, q)

too-high : (a b : Bool) → b ≡ false → one-if (a && b) ≡ 0
too-high true b q = rw q
too-high false b q = refl

at_most_one : (t : Bool) → one-if t ≤ 1
at_most_one true = omega arith
at_most_one false = omega arith

module _ (to : ℕ) where
  -- from a power that isn't below on, none is
  none-among : (m k : ℕ) → to ≤ 2 ^ k → powers_among to (places m k) ≡ 0
  unfolding powers_among places
  none-among zero k h = refl
  none-among (suc m) k h =
      let p = pow-suc 2 k in
      omega (arith, too-high (leb 1000 (2 ^ k)) (ltb (2 ^ k) to) (le-ltb (2 ^ k) to h), none-among m (suc k) (omega arith))

  -- one below 1,000 isn't due
  low : (m k : ℕ) → 2 ^ k < 1000 → powers_among to (places (suc m) k) ≡ powers_among to (places m (suc k))
  unfolding powers_among places
  low m k h = rw (lt-leb 1000 (2 ^ k) h) (zero-add (powers_among to (places m (suc k))))

  -- one from there on, and below
  due : (m k : ℕ) → 1000 ≤ 2 ^ k → 2 ^ k < to → powers_among to (places (suc m) k) ≡ 1 + powers_among to (places m (suc k))
  unfolding powers_among places
  due m k h g = rw (counted (leb 1000 (2 ^ k)) (ltb (2 ^ k) to) (le-leb 1000 (2 ^ k) h) (lt-ltb (2 ^ k) to g)) refl

  -- ---- the loop: so many were met, and the next is `r`
  pub record Met (r n : ℕ) : Type 0 where
    pub power : r ≡ 2 ^ (10 + n)
    pub high : 1000 ≤ r
    pub few : n ≤ 38
    pub rest : n + powers_among to (places (38 - n) (10 + n)) ≡ powers_among to (places 48 0)

  pub met-none : Met 1024 0
  met-none = record {
    power = refl;
    high = omega arith;
    few = omega arith;
    rest =
        zero-add (powers_among to (places 38 10))
        ∙ sym
        (low 47 0 (omega arith)
        ∙ low 46 1 (omega arith)
        ∙ low 45 2 (omega arith)
        ∙ low 44 3 (omega arith)
        ∙ low 43 4 (omega arith)
        ∙ low 42 5 (omega arith)
        ∙ low 41 6 (omega arith)
        ∙ low 40 7 (omega arith)
        ∙ low 39 8 (omega arith)
        ∙ low 38 9 (omega arith));
  }

  module _ {r n : ℕ} (g : Met r n) where
    module _ (below : r < to) (most : to ≤ MOST_ROWS) where
      -- the power with exponent 48 is above all rows
      fewer : n < 38
      fewer = ⊎_elim
          (λ (h : n < 38). h)
          (λ (h : 38 ≤ n). let e : n ≡ 38 = omega (arith, g.few) in let p : r ≡ 281474976710656 = rw e at g.power in absurd (omega arith))
          (lt-or-ge n 38)

      pub met-one : Met (r * 2) (n + 1)
      met-one =
          let f = fewer in
          let m : 38 - n ≡ suc (38 - (n + 1)) = omega arith in
          let k : suc (10 + n) ≡ 10 + (n + 1) = omega arith in
          let p = g.power in
          let h = g.high in
          let one = due (38 - (n + 1)) (10 + n) (rw p at h) (rw p at below) in
          let rest : n + powers_among to (places (suc (38 - (n + 1))) (10 + n)) ≡ powers_among to (places 48 0) = rw m at g.rest in
          let next : powers_among to (places (38 - (n + 1)) (suc (10 + n))) ≡ powers_among to (places (38 - (n + 1)) (10 + (n + 1))) = rw k in
          record {
            power = ap (λ (x : ℕ). x * 2) p ∙ sym (pow-suc 2 (10 + n)) ∙ ap (λ (x : ℕ). 2 ^ x) k;
            high = omega arith;
            few = omega arith;
            rest = omega (arith, one, rest, next);
          }

    pub all-met : to ≤ r → n ≡ powers_among to (places 48 0)
    all-met h =
        let p = g.power in
        let none = none-among (38 - n) (10 + n) (rw p at h) in
        omega (arith, none, g.rest)

-- ---- there are few
few-among : (to : ℕ) (ks : List ℕ) → powers_among to ks ≤ length ks
unfolding powers_among
few-among to [] = omega arith
few-among to (k ∷ ks) = let h = few-among to ks in omega (arith, at_most_one (leb 1000 (2 ^ k) && ltb (2 ^ k) to))

pub powers-few : (to : ℕ) → powers_among to (places 48 0) ≤ 48
unfolding places
powers-few to = few-among to (places 48 0)
