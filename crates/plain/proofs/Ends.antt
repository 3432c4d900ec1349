-- The ends of blobs: where an item starts, what the loop over the ends carries, and what the plain rules say on each way through their tests.
-- Assumes nothing.
use mathlib.Core.Path.{◌≡◌, refl, sym, ap, ◌∙◌}
use mathlib.Core.Bool.{true, false}
use mathlib.Core.List.{List, [], ◌∷◌, map}
use Prim.Native.Nat.{ℕ, zero, suc, ◌+◌, ◌-◌, ◌*◌, ◌≤◌, ◌<◌}
use native.Mathlib.Numerals.{add-one}
use native.Mathlib.Omega.{arith}
use borrow.Author.Tests.{lt-ltb, le-ltb, le-leb, lt-leb, eq-eqb, ne_eqb}
use lib.ListN.{length}
use Rattle.encode.specs.Kinds.{blob}
use Rattle.limits.specs.Refusals.{CUT, LENGTH, ENDS}
use Rattle.plain.specs.Rules.{first_of}
use Rattle.plain.specs.Plain.{places, ends_from, end_at, start_at, ends_of, rising, last_of, lengths_number}

-- ---- an end an item
pub length-ends : (at : ℕ) (xs : List (List ℕ)) → length (ends_from at xs) ≡ length xs
unfolding ends_from
length-ends at [] = refl
length-ends at (x ∷ xs) = ap suc (length-ends (at + length x) xs)

-- ---- where an item starts
pub start_first : (s : List ℕ) (i : ℕ) → i ≡ 0 → 0 ≡ start_at s i
unfolding start_at
start_first s i e = ap (start_at s) (sym e)

pub start-later : (s : List ℕ) (i : ℕ) → (i ≡ 0 → ⊥) → end_at s (i - 1) ≡ start_at s i
unfolding start_at
start-later s zero h = absurd (h refl)
start-later s (suc i) h = let e : suc i - 1 ≡ i = omega arith in ap (end_at s) e

-- ---- the plain rules of n blobs
module _ (n : ℕ) (s : List ℕ) where
  pub ends-missing : length s < 4 * n → CUT ≡ lengths_number blob n s
  unfolding lengths_number first_of
  ends-missing h = simp (lt-ltb (length s) (4 * n) h)

  module _ (h : 4 * n ≤ length s) where
    pub ends-wrong : rising 0 (length s - 4 * n) (ends_of n s) ≡ false → ENDS ≡ lengths_number blob n s
    unfolding lengths_number first_of
    ends-wrong r = simp (le-ltb (length s) (4 * n) h, r)

    pub last-other : rising 0 (length s - 4 * n) (ends_of n s) ≡ true → (last_of 0 (ends_of n s) ≡ length s - 4 * n → ⊥) → LENGTH ≡ lengths_number blob n s
    unfolding lengths_number first_of
    last-other r l = simp (le-ltb (length s) (4 * n) h, r, ne_eqb (last_of 0 (ends_of n s)) (length s - 4 * n) l)

    pub last-same : rising 0 (length s - 4 * n) (ends_of n s) ≡ true → last_of 0 (ends_of n s) ≡ length s - 4 * n → 0 ≡ lengths_number blob n s
    unfolding lengths_number first_of
    last-same r l = simp (le-ltb (length s) (4 * n) h, r, eq-eqb (last_of 0 (ends_of n s)) (length s - 4 * n) l)

-- ---- the loop over the ends: what is left to look at decides
pub record Rising (s : List ℕ) (n room before i : ℕ) : Type 0 where
  pub rest : rising 0 room (ends_of n s) ≡ rising before room (map (end_at s) (places (n - i) i))
  pub end : last_of 0 (ends_of n s) ≡ last_of before (map (end_at s) (places (n - i) i))
  pub sound : i ≤ n

pub rising-start : (s : List ℕ) (n room : ℕ) → Rising s n room 0 0
unfolding ends_of
rising-start s n room = let z : n - 0 ≡ n = omega arith in record { rest = rw z; end = rw z; sound = omega arith }

module _ {s : List ℕ} {n room before i : ℕ} (g : Rising s n room before i) where
  -- e is the end that the code reads
  module _ (h : i < n) {e : ℕ} (is : e ≡ end_at s i) where
    next : n - i ≡ suc (n - (i + 1))
    next = omega arith

    pub end_falls : e < before → rising 0 room (ends_of n s) ≡ false
    unfolding places rising
    end_falls l = g.rest ∙ rw (next, ← is) (simp (lt-leb before e l))

    module _ (l : before ≤ e) where
      pub end-passes : room < e → rising 0 room (ends_of n s) ≡ false
      unfolding places rising
      end-passes m = g.rest ∙ rw (next, ← is) (simp (le-leb before e l, lt-leb e room m))

      pub rising_step : e ≤ room → Rising s n room e (i + 1)
      unfolding places rising last_of
      rising_step m = record {
        rest = g.rest ∙ rw (next, ← is, add-one) (simp (le-leb before e l, le-leb e room m));
        end = g.end ∙ rw (next, ← is, add-one);
        sound = omega arith;
      }

  pub rising-all : n ≤ i → (rising 0 room (ends_of n s) ≡ true) × (last_of 0 (ends_of n s) ≡ before)
  unfolding places rising last_of
  rising-all h = let z : n - i ≡ 0 = omega arith in (g.rest ∙ rw z, g.end ∙ rw z)
