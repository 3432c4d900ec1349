-- Digits taken one after another, and the number that they come to. Assumes nothing.
use Prim.Native.Nat.{ℕ, suc, ◌+◌, ◌*◌, ◌-◌, ◌^◌, ◌≤◌, ◌<◌}
use native.Mathlib.Omega.{arith}
use native.Mathlib.Nat.{add-mul, mul_assoc, mul_left_comm, pow-succ', one-le-pow, le-mul_of_pos_right}
use mathlib.Core.Bool.{Bool, true, false, cond, ◌&&◌}
use mathlib.Core.List.{List, [], ◌∷◌}
use mathlib.Core.Path.{◌≡◌, refl, sym, ap, ◌∙◌}
use lib.Dec.{ltb}
use lib.ListN.{length, drop, get_or, drop_of_length-le}
use lib.Seq.{drop-cons}
use borrow.Author.Tests.{lt-ltb, le-ltb, ltb-true, ltb-false, ne_eqb, eq-eqb}
use Rattle.std.specs.Prelude.{Option, Some, None}
use Rattle.column_by.specs.Named.{is_digit, all_digits, value_of, within, column_named, with_digit}

-- ---- one digit more
still-fits : (n b m : ℕ) → with_digit n b ≡ Some m → m < 2 ^ 64
unfolding with_digit
still-fits n b m p = go (is_digit b) (ltb (10 * n + (b - 48)) (2 ^ 64)) refl p
  where
    go : (t f : Bool) → ltb (10 * n + (b - 48)) (2 ^ 64) ≡ f → cond t (cond f (Some (10 * n + (b - 48))) None) None ≡ Some m → m < 2 ^ 64
    go true true e q =
        let z : 10 * n + (b - 48) ≡ m = cc in
        let l = ltb-true (10 * n + (b - 48)) (2 ^ 64) e in
        omega arith
    go true false e q = let z : ◌≡◌ {A = ℕ} 0 1 = cc in absurd (omega arith)
    go false f e q = let z : ◌≡◌ {A = ℕ} 0 1 = cc in absurd (omega arith)

-- ---- a number and all the digits behind it
unfoldable pub number_from : ℕ → List ℕ → Option ℕ
number_from n s = cond (all_digits s) (within (n * 10 ^ length s + value_of s)) None

scaled : (n d k v : ℕ) → n * 10 ^ suc k + (d * 10 ^ k + v) ≡ (10 * n + d) * 10 ^ k + v
scaled n d k v =
    let a : n * 10 ^ suc k ≡ 10 * n * 10 ^ k = rw (pow-succ' 10 k, mul_left_comm n 10 (10 ^ k), mul_assoc 10 n (10 ^ k)) in
    let b = add-mul (10 * n) d (10 ^ k) in
    omega (arith, a, b)

module _ (n b : ℕ) (s : List ℕ) where
  more : ℕ
  more = 10 * n + (b - 48)

  -- the first digit goes to the number
  taken_in : number_from n (b ∷ s) ≡ cond (is_digit b && all_digits s) (within (more * 10 ^ length s + value_of s)) None
  unfolding number_from all_digits value_of more
  taken_in = ap (λ (v : ℕ). cond (is_digit b && all_digits s) (within v) None) (scaled n (b - 48) (length s) (value_of s))

  digit-taken : (m : ℕ) → with_digit n b ≡ Some m → number_from n (b ∷ s) ≡ number_from m s
  unfolding with_digit number_from more
  digit-taken m p = taken_in ∙ go (is_digit b) (ltb more (2 ^ 64)) p
    where
      go : (t f : Bool) → cond t (cond f (Some more) None) None ≡ Some m
          → cond (t && all_digits s) (within (more * 10 ^ length s + value_of s)) None ≡ number_from m s
      go true true q = let e : more ≡ m = cc in rw e
      go true false q = let z : ◌≡◌ {A = ℕ} 0 1 = cc in absurd (omega arith)
      go false f q = let z : ◌≡◌ {A = ℕ} 0 1 = cc in absurd (omega arith)

  -- what is no digit, or too large with it, names no column, whatever follows
  digit-refused : with_digit n b ≡ None → number_from n (b ∷ s) ≡ None
  unfolding with_digit more
  digit-refused p = taken_in ∙ go (is_digit b) (ltb more (2 ^ 64)) refl p
    where
      power : 1 ≤ 10 ^ length s
      power = one-le-pow (length s) 10 (omega arith)

      large : ltb more (2 ^ 64) ≡ false → within (more * 10 ^ length s + value_of s) ≡ None
      large e =
          let l : 2 ^ 64 ≤ more = ltb-false more (2 ^ 64) e in
          let m : more ≤ more * 10 ^ length s = le-mul_of_pos_right more power in
          rw (le-ltb (more * 10 ^ length s + value_of s) (2 ^ 64) (omega arith))

      either : (a : Bool) {x : Option ℕ} → x ≡ None → cond a x None ≡ None
      either true q = q
      either false q = refl

      go : (t f : Bool) → ltb more (2 ^ 64) ≡ f → cond t (cond f (Some more) None) None ≡ None
          → cond (t && all_digits s) (within (more * 10 ^ length s + value_of s)) None ≡ None
      go true true e q = let z : ◌≡◌ {A = ℕ} 0 1 = cc in absurd (omega arith)
      go true false e q = either (all_digits s) (large e)
      go false f e q = refl

-- ---- the loop: of a text, i digits are taken, and n is their number
pub record Taking (s : List ℕ) (n i : ℕ) : Type 0 where
  pub fits : n < 2 ^ 64
  pub whole : column_named s ≡ number_from n (drop i s)

pub none-to-take : (s : List ℕ) → length s ≡ 0 → None ≡ column_named s
unfolding column_named
none-to-take s h = rw (eq-eqb (length s) 0 h)

pub taking-start : (s : List ℕ) → (length s ≡ 0 → ⊥) → Taking s 0 0
unfolding column_named number_from
taking-start s h = record {
  fits = omega arith;
  whole = let z : 0 * 10 ^ length s + value_of s ≡ value_of s = omega arith in rw (ne_eqb (length s) 0 h, z);
}

module _ {s : List ℕ} {n i : ℕ} (g : Taking s n i) where
  module _ (left : i < length s) where
    next : drop i s ≡ get_or s i 0 ∷ drop (i + 1) s
    next = let z : suc i ≡ i + 1 = omega arith in drop-cons s i 0 left ∙ ap (λ (k : ℕ). get_or s i 0 ∷ drop k s) z

    pub taking_step : {m : ℕ} → with_digit n (get_or s i 0) ≡ Some m → Taking s m (i + 1)
    taking_step {m = m} q = record {
      fits = still-fits n (get_or s i 0) m q;
      whole = g.whole ∙ ap (number_from n) next ∙ digit-taken n (get_or s i 0) (drop (i + 1) s) m q;
    }

    pub taking-refused : with_digit n (get_or s i 0) ≡ None → None ≡ column_named s
    taking-refused q = sym (g.whole ∙ ap (number_from n) next ∙ digit-refused n (get_or s i 0) (drop (i + 1) s) q)

  pub taking-end : length s ≤ i → Some n ≡ column_named s
  unfolding number_from all_digits value_of
  taking-end h =
      let z : n * 10 ^ 0 + 0 ≡ n = omega arith in
      let e : number_from n [] ≡ Some n = rw (z, lt-ltb n (2 ^ 64) g.fits) in
      sym (g.whole ∙ ap (number_from n) (drop_of_length-le s {i = i} h) ∙ e)
