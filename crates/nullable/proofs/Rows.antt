-- The loops of `flags` and `blank`: what a function gives at each place, stored one after another. Assumes nothing.
use Prim.Native.Nat.{ℕ, zero, suc, ◌+◌, ◌-◌, ◌/◌, ◌%◌, ◌≤◌, ◌<◌}
use native.Mathlib.Nat.{add-zero, zero-add}
use native.Mathlib.Numerals.{add-one}
use native.Mathlib.Omega.{arith}
use mathlib.Core.Path.{◌≡◌, refl, sym, ap, ◌∙◌}
use mathlib.Core.List.{List, map}
use lib.IntN.{ℤ, pos}
use lib.ListN.{length, get_or, set, length-set}
use lib.Seq.{sets, length-sets, get_or-set_other}
use borrow.Author.Tests.{eq-eqb, ne_eqb}
use Rattle.area.proofs.Laws.{sets-append}
use Rattle.plain.specs.Plain.{places}
use Rattle.plain.proofs.Places.{length_over, over_add, over-shift, over-same}
use Rattle.nullable.specs.Nullable.{bit_at}
use Rattle.nullable.specs.Blanks.{bit_in, blank_at}

-- ---- what is still to be stored, laid over what is there, is the answer
pub record Telling (A : Type 0) (f : ℕ → A) (from n : ℕ) (out₀ out : List A) (i : ℕ) : Type 0 where
  pub rest : sets out i (map f (places (n - i) (from + i))) ≡ sets out₀ 0 (map f (places n from))
  pub room : length out ≡ length out₀
  pub sound : i ≤ n

module _ {A : Type 0} where
  pub telling-start : (f : ℕ → A) (from n : ℕ) (out : List A) → Telling A f from n out out 0
  telling-start f from n out = let m : n - 0 ≡ n = omega arith in record { rest = rw (m, add-zero from); room = refl; sound = omega arith }

  module _ {f : ℕ → A} {from n : ℕ} {out₀ out : List A} {i : ℕ} (c : Telling A f from n out₀ out i) where
    pub telling-step : {x : A} → i < n → x ≡ f (from + i) → Telling A f from n out₀ (set out i x) (i + 1)
    unfolding places
    telling-step {x} h e =
        let m : n - i ≡ suc (n - (i + 1)) = omega arith in
        let a : from + (i + 1) ≡ suc (from + i) = omega arith in
        record {
          rest = rw (e, a, add-one i) (rw (m, add-one i) at c.rest);
          room = length-set out i x ∙ c.room;
          sound = omega arith;
        }

    -- some more at once
    pub telling-some : {r : ℕ} {out' : List A} → r ≤ n - i → i < n → out' ≡ sets out i (map f (places r (from + i))) → Telling A f from n out₀ out' (i + r)
    telling-some {r} {out'} l h e =
        let m : n - i ≡ r + (n - (i + r)) = omega arith in
        let a : from + (i + r) ≡ from + i + r = omega arith in
        let w : length (map f (places r (from + i))) ≡ r = length_over f r (from + i) in
        record {
          rest =
              rw (e, a)
              (sym (ap (λ (j : ℕ). sets out i (map f (places j (from + i)))) m
              ∙ ap (sets out i) (over_add f r (n - (i + r)) (from + i))
              ∙ sets-append (map f (places r (from + i))) (map f (places (n - (i + r)) (from + i + r))) out i
              ∙ ap (λ (j : ℕ). sets (sets out i (map f (places r (from + i)))) (i + j) (map f (places (n - (i + r)) (from + i + r)))) w)
              ∙ c.rest);
          room = rw e (length-sets out i (map f (places r (from + i)))) ∙ c.room;
          sound = omega arith;
        }

    pub telling-end : n ≤ i → out ≡ sets out₀ 0 (map f (places n from))
    unfolding places
    telling-end h = let m : n - i ≡ 0 = omega arith in rw m at c.rest

-- ---- the eight rows of a byte
eight-at : (bitmap : List ℕ) (row j : ℕ) → row % 8 ≡ 0 → j < 8 → bit_at bitmap (row + j) ≡ bit_in (get_or bitmap (row / 8) 0) j
unfolding bit_at bit_in
eight-at bitmap row j h l =
    let a : (row + j) / 8 ≡ row / 8 = omega arith in
    let b : (row + j) % 8 ≡ j = omega arith in
    rw (a, b)

pub eight-bits : (bitmap : List ℕ) (row : ℕ) → row % 8 ≡ 0 → map (bit_in (get_or bitmap (row / 8) 0)) (places 8 0) ≡ map (bit_at bitmap) (places 8 row)
eight-bits bitmap row h =
    over-same (bit_in (get_or bitmap (row / 8) 0)) (λ (j : ℕ). bit_at bitmap (row + j)) 8 0 (λ j a b. sym (eight-at bitmap row j h (omega arith)))
    ∙ sym (over-shift (bit_at bitmap) 8 row 0)
    ∙ ap (λ (i : ℕ). map (bit_at bitmap) (places 8 i)) (add-zero row)

-- eight stores, one after another, are those of the bits
abbrev four-stores : ℕ → ℕ → List ℕ → List ℕ
four-stores byte at out = set (set (set (set out at (byte % 2)) (at + 1) (byte / 2 % 2)) (at + 2) (byte / 4 % 2)) (at + 3) (byte / 8 % 2)

pub eight-stores : (byte at : ℕ) (out : List ℕ)
    → set (set (set (set (four-stores byte at out) (at + 4) (byte / 16 % 2)) (at + 5) (byte / 32 % 2)) (at + 6) (byte / 64 % 2)) (at + 7) (byte / 128 % 2)
    ≡ sets out at (map (bit_in byte) (places 8 0))
unfolding bit_in places
eight-stores byte at out =
    let whole : byte / 1 ≡ byte = omega arith in
    let a1 : at + 1 ≡ suc at = omega arith in
    let a2 : at + 2 ≡ suc (suc at) = omega arith in
    let a3 : at + 3 ≡ suc (suc (suc at)) = omega arith in
    let a4 : at + 4 ≡ suc (suc (suc (suc at))) = omega arith in
    let a5 : at + 5 ≡ suc (suc (suc (suc (suc at)))) = omega arith in
    let a6 : at + 6 ≡ suc (suc (suc (suc (suc (suc at))))) = omega arith in
    let a7 : at + 7 ≡ suc (suc (suc (suc (suc (suc (suc at)))))) = omega arith in
    rw (whole, a1, a2, a3, a4, a5, a6, a7)

-- ---- `blank`: the values from the place on are as they were
pub record Blanking (flags : List ℕ) (n : ℕ) (values₀ values : List ℤ) (i : ℕ) : Type 0 where
  pub told : Telling ℤ (blank_at flags values₀) 0 n values₀ values i
  pub kept : (k : ℕ) → i ≤ k → get_or values k (pos 0) ≡ get_or values₀ k (pos 0)

pub blanking-start : (flags : List ℕ) (n : ℕ) (values : List ℤ) → Blanking flags n values values 0
blanking-start flags n values = record { told = telling-start (blank_at flags values) 0 n values; kept = λ k h. refl }

module _ {flags : List ℕ} {n : ℕ} {values₀ values : List ℤ} {i : ℕ} (c : Blanking flags n values₀ values i) where
  -- one value more, by its flag
  pub blanking-step : {x : ℤ} {values' : List ℤ} → i < n → (get_or flags i 0 ≡ 0 → x ≡ pos 0) × (0 < get_or flags i 0 → x ≡ get_or values i (pos 0))
      → values' ≡ set values i x → Blanking flags n values₀ values' (i + 1)
  unfolding blank_at
  blanking-step {x} h shown v =
      rw v record {
        told = telling-step c.told h (rw zero-add (by_flag (get_or flags i 0) refl));
        kept = λ k l. get_or-set_other values i k x (pos 0) (λ q. omega arith) ∙ c.kept k (omega arith);
      }
    where
      by_flag : (f : ℕ) → get_or flags i 0 ≡ f → x ≡ blank_at flags values₀ i
      by_flag zero q = simp (eq-eqb (get_or flags i 0) 0 q) (shown.0 q)
      by_flag (suc f) q = simp (ne_eqb (get_or flags i 0) 0 (λ z. omega arith)) (shown.1 (omega arith) ∙ c.kept i (omega arith))

  pub blanking-end : n ≤ i → values ≡ sets values₀ 0 (map (blank_at flags values₀) (places n 0))
  blanking-end h = telling-end c.told h
