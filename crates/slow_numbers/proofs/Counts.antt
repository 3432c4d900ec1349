-- A count read byte by byte: what the bytes that were passed make of the rest, and what each way out of the loop finds. Assumes nothing.
use Rattle.std.specs.Prelude.{Option, Some, None}
use Prim.Native.Nat.{ℕ, zero, suc, ◌+◌, ◌-◌, ◌*◌, ◌^◌, ◌≤◌, ◌<◌}
use native.Mathlib.Nat.{add-zero, add-mul, mul_assoc, mul-le-mul, mul-le-mul_right, pow-suc, pow-le-pow_right}
use native.Mathlib.Numerals.{add-one}
use native.Mathlib.Omega.{arith}
use mathlib.Core.Bool.{Bool, true, false, cond, ◌&&◌, and-false}
use mathlib.Core.List.{List, []}
use mathlib.Core.Path.{◌≡◌, refl, sym, ap, ◌∙◌}
use lib.Dec.{ltb, eqb, lit<}
use lib.ListN.{length, get_or, drop, drop_of_length-le}
use lib.Seq.{drop-cons}
use borrow.Author.Tests.{lt-ltb, le-ltb, ne_eqb}
use Rattle.varint.specs.declared.Count.{Count}
use Rattle.varint.specs.Varint.{more, count_within, in_32_bits, count_of, count_at, counted}
use Rattle.slow_numbers.specs.Numbers.{idle_after, ahead}

-- ---- a last byte of 0
module _ (i b : ℕ) where
  pub idle-first : i ≡ 0 → false ≡ idle_after i b
  idle-first e = rw e

  pub idle-later : (i ≡ 0 → ⊥) → eqb b 0 ≡ idle_after i b
  idle-later h = let l : 0 < i = omega (arith, h) in simp (lt-ltb 0 i l)

-- ---- the last byte
module _ (value worth i b : ℕ) where
  pub last-idle : idle_after i b ≡ true → None ≡ in_32_bits (ahead value worth i (counted b 1))
  unfolding ahead in_32_bits
  last-idle h = rw h

  module _ (h : idle_after i b ≡ false) where
    pub last-large : 4294967295 < value + b * worth → None ≡ in_32_bits (ahead value worth i (counted b 1))
    unfolding ahead in_32_bits
    last-large l = rw h (simp (le-ltb (value + b * worth) (2 ^ 32) (omega arith)))

    pub last-number : value + b * worth ≤ 4294967295 → counted (value + b * worth) (i + 1) ≡ in_32_bits (ahead value worth i (counted b 1))
    unfolding ahead in_32_bits
    last-number l = rw h (simp (lt-ltb (value + b * worth) (2 ^ 32) (omega arith)))

-- seven bits of so much worth
pub bits-few : (b worth : ℕ) → b < 128 → worth ≤ 268435456 → b * worth ≤ 127 * 268435456
bits-few b worth h l = let k : b ≤ 127 = omega arith in mul-le-mul k l

-- ---- bytes before the rest
ahead_none : (r : Option Count) → r ≡ ahead 0 1 0 r
unfolding ahead
ahead_none (Some c) =
    let e : 0 + c.value * 1 ≡ c.value = omega arith in
    let f : 0 + c.len ≡ c.len = omega arith in
    rw (e, f)
ahead_none None = refl

module _ (value worth i low : ℕ) where
  -- a byte before what is worth something
  ahead-worth : (v n : ℕ) → 0 < v → ahead value worth i (more low (counted v n)) ≡ ahead (value + low * worth) (worth * 128) (i + 1) (counted v n)
  unfolding ahead more
  ahead-worth v n h =
      let d : (low + 128 * v) * worth ≡ low * worth + 128 * v * worth = add-mul low (128 * v) worth in
      let p : 128 * v * worth ≡ 128 * (v * worth) = mul_assoc 128 v worth in
      let q : v * worth * 128 ≡ v * (worth * 128) = mul_assoc v worth 128 in
      let e : value + (low + 128 * v) * worth ≡ value + low * worth + v * (worth * 128) = omega arith in
      let f : i + (n + 1) ≡ i + 1 + n = omega arith in
      let z : eqb v 0 ≡ false = ne_eqb v 0 (λ (k : v ≡ 0). omega arith) in
      let y : eqb (low + 128 * v) 0 ≡ false = ne_eqb (low + 128 * v) 0 (λ (k : low + 128 * v ≡ 0). omega arith) in
      ap (λ (t : Bool). ahead value worth i (cond t None (counted (low + 128 * v) (n + 1)))) z
      ∙ ap (λ (t : Bool). cond t None (counted (value + (low + 128 * v) * worth) (i + (n + 1)))) (ap (λ (t : Bool). ltb 0 i && t) y ∙ and-false (ltb 0 i))
      ∙ ap (λ (x : ℕ). counted x (i + (n + 1))) e
      ∙ ap (counted (value + low * worth + v * (worth * 128))) f
      ∙ sym (ap (λ (t : Bool). cond t None (counted (value + low * worth + v * (worth * 128)) (i + 1 + n))) (ap (λ (t : Bool). ltb 0 (i + 1) && t) z ∙ and-false (ltb 0 (i + 1))))

  ahead_more : (r : Option Count) → ahead value worth i (more low r) ≡ ahead (value + low * worth) (worth * 128) (i + 1) r
  unfolding ahead more
  ahead_more (Some c) = by_value c.value c.len
    where
      by_value : (v n : ℕ) → ahead value worth i (more low (counted v n)) ≡ ahead (value + low * worth) (worth * 128) (i + 1) (counted v n)
      by_value zero n = simp (lt-ltb 0 (i + 1) (omega arith))
      by_value (suc v) n = ahead-worth (suc v) n (omega arith)
  ahead_more None = refl

-- ---- the loop: i bytes are passed, each of which says that the number goes on
pub record Passed (s : List ℕ) (at value worth i : ℕ) : Type 0 where
  pub rest : count_within 5 (drop at s) ≡ ahead value worth i (count_within (5 - i) (drop (at + i) s))
  pub low : value < worth
  pub grown : worth ≡ 128 ^ i
  pub sound : i ≤ 5
  pub there : at + i ≤ length s

pub passed_start : (s : List ℕ) (at : ℕ) → at ≤ length s → Passed s at 0 1 0
passed_start s at h = record {
  rest = rw add-zero (ahead_none (count_within 5 (drop at s)));
  low = omega arith;
  grown = refl;
  sound = omega arith;
  there = omega arith;
}

none_left : (k : ℕ) → count_within k [] ≡ None
unfolding count_within
none_left zero = refl
none_left (suc k) = refl

module _ {s : List ℕ} {at value worth i : ℕ} (g : Passed s at value worth i) where
  found : {r : Option Count} → count_within (5 - i) (drop (at + i) s) ≡ r → count_at s at ≡ in_32_bits (ahead value worth i r)
  unfolding count_at count_of
  found e = ap in_32_bits (g.rest ∙ ap (ahead value worth i) e)

  pub passed-cut : length s ≤ at + i → None ≡ count_at s at
  unfolding ahead in_32_bits
  passed-cut h = sym (found {r = None} (rw (drop_of_length-le s {i = at + i} h) (none_left (5 - i))))

  pub passed-all : 5 ≤ i → None ≡ count_at s at
  unfolding ahead in_32_bits count_within
  passed-all h = let z : 5 - i ≡ 0 = omega arith in sym (found {r = None} (rw z))

  module _ (h : i < 5) where
    pub passed-worth : worth ≤ 268435456
    passed-worth =
        let p : 128 ^ i ≤ 128 ^ 4 = pow-le-pow_right {n = 128} (lit< tt) {i = i} {j = 4} (omega arith) in
        let e : worth ≡ 128 ^ i = g.grown in
        omega arith

    module _ (k : at + i < length s) {b : ℕ} (is : b ≡ get_or s (at + i) 0) where
      next : 5 - i ≡ suc (5 - (i + 1))
      next = omega arith

      pub passed-last : b < 128 → {r : Option Count} → r ≡ in_32_bits (ahead value worth i (counted b 1)) → r ≡ count_at s at
      unfolding count_within
      passed-last l e = e ∙ sym (found {r = counted b 1} (rw (next, drop-cons s (at + i) 0 k, ← is) (simp (lt-ltb b 128 l))))

      pub passed-step : 128 ≤ b → b < 256 → Passed s at (value + (b - 128) * worth) (worth * 128) (i + 1)
      unfolding count_within
      passed-step l m =
          let f : suc (at + i) ≡ at + (i + 1) = omega arith in
          let p : b - 128 ≤ 127 = omega arith in
          let q : (b - 128) * worth ≤ 127 * worth = mul-le-mul_right worth p in
          let v : value < worth = g.low in
          let e : worth ≡ 128 ^ i = g.grown in
          let d : 128 ^ suc i ≡ 128 ^ i * 128 = pow-suc 128 i in
          record {
            rest = g.rest ∙ ap (ahead value worth i) (rw (next, drop-cons s (at + i) 0 k, ← is, f) (simp (le-ltb b 128 l))) ∙ ahead_more value worth i (b - 128) _;
            low = omega arith;
            grown = rw add-one (omega arith);
            sound = omega arith;
            there = omega arith;
          }
