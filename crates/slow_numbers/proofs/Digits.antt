-- The bytes of a number, taken from the highest on: what those that were taken are worth, in either order. Assumes nothing.
use Prim.Native.Nat.{ℕ, suc, ◌+◌, ◌-◌, ◌*◌, ◌^◌, ◌≤◌, ◌<◌}
use native.Mathlib.Nat.{pow-suc, pow-le-pow_right}
use native.Mathlib.Numerals.{add-one}
use native.Mathlib.Omega.{arith}
use mathlib.Core.Bool.{Bool, true, false}
use mathlib.Core.List.{List, [], ◌∷◌, reverse, reverse-append}
use mathlib.Core.Path.{◌≡◌, refl, sym, ap, subst, ◌∙◌}
use lib.Dec.{lit<}
use lib.ListN.{length, take, drop, get_or, length-drop}
use lib.Seq.{drop-cons, take-suc, get_or-drop}
use Rattle.encode.specs.Bytes.{number, number_of}
use Rattle.slow_numbers.specs.Numbers.{order_by, place_by}

-- where the next byte stands, by what a test of the flag said
module _ {high : Bool} (at w i : ℕ) where
  pub place-high : high ≡ true → at + i ≡ place_by high at w i
  unfolding place_by
  place-high e = ap (λ (t : Bool). place_by t at w i) (sym e)

  pub place-low : high ≡ false → at + (w - 1 - i) ≡ place_by high at w i
  unfolding place_by
  place-low e = ap (λ (t : Bool). place_by t at w i) (sym e)

-- the i bytes that were taken: the first, or the last
abbrev part : List ℕ → ℕ → ℕ → Bool → ℕ → List ℕ
part s at w true i = take i (drop at s)
part s at w false i = take i (drop (at + (w - i)) s)

module _ (s : List ℕ) (at w : ℕ) where
  abbrev worth : Bool → ℕ → ℕ
  worth high i = number_of (order_by high) (part s at w high i)

  none : (high : Bool) → 0 ≡ worth high 0
  unfolding order_by
  none true = refl
  none false = refl

  all : (high : Bool) → worth high w ≡ number_of (order_by high) (take w (drop at s))
  unfolding order_by
  all true = refl
  all false = let e : at + (w - w) ≡ at = omega arith in rw e

  module _ (i : ℕ) (h : i < w) (b : at + w ≤ length s) where
    pub place-within : (high : Bool) → place_by high at w i < length s
    unfolding place_by
    place-within true = omega arith
    place-within false = omega arith

    one_more : (high : Bool) → worth high (suc i) ≡ worth high i * 256 + get_or s (place_by high at w i) 0
    unfolding order_by place_by
    one_more true =
        let l = length-drop at s in
        let taken : List ℕ = take i (drop at s) in
        let byte : ℕ = get_or (drop at s) i 0 in
        let e : number (reverse (take (suc i) (drop at s))) ≡ byte + 256 * number (reverse taken) =
        ap (λ (x : List ℕ). number (reverse x)) (take-suc (drop at s) i 0 (omega arith)) ∙ ap number (reverse-append taken (byte ∷ [])) in
        let d : byte ≡ get_or s (at + i) 0 = get_or-drop at s i 0 in
        omega arith
    one_more false =
        let j : ℕ = at + (w - 1 - i) in
        let e : at + (w - suc i) ≡ j = omega arith in
        let f : suc j ≡ at + (w - i) = omega arith in
        let k : j < length s = omega arith in
        let d : number (take (suc i) (drop j s)) ≡ get_or s j 0 + 256 * number (take i (drop (suc j) s)) = ap (λ (x : List ℕ). number (take (suc i) x)) (drop-cons s j 0 k) in
        rw (e, ← f) (omega arith)

-- the loop: i bytes are taken
pub record Taken (s : List ℕ) (at w : ℕ) (high : Bool) (i n : ℕ) : Type 0 where
  pub whole : n ≡ worth s at w high i
  pub small : n < 256 ^ i
  pub sound : i ≤ w

pub taken_start : (s : List ℕ) (at w : ℕ) (high : Bool) → Taken s at w high 0 0
taken_start s at w high = record { whole = none s at w high; small = omega arith; sound = omega arith }

module _ {s : List ℕ} {at w : ℕ} {high : Bool} {i n : ℕ} (g : Taken s at w high i n) where
  -- what was taken leaves room for a byte
  pub taken-room : i < w → w ≤ 8 → n < 72057594037927936
  taken-room h m =
      let p : 256 ^ i ≤ 256 ^ 7 = pow-le-pow_right {n = 256} (lit< tt) {i = i} {j = 7} (omega arith) in
      let l : n < 256 ^ i = g.small in
      omega arith

  pub taken_step : i < w → at + w ≤ length s → {b : ℕ} → b ≡ get_or s (place_by high at w i) 0 → b < 256 → Taken s at w high (i + 1) (n * 256 + b)
  taken_step h m {b} e l =
      let p : 256 ^ suc i ≡ 256 ^ i * 256 = pow-suc 256 i in
      let q : n < 256 ^ i = g.small in
      record {
        whole = rw add-one (sym (rw (← e, ← g.whole) at (one_more s at w i h m high)));
        small = rw add-one (omega arith);
        sound = omega arith;
      }

  pub taken-end : w ≤ i → (n ≡ number_of (order_by high) (take w (drop at s))) × (n < 256 ^ w)
  taken-end h =
      let e : i ≡ w = omega arith in
      (subst (λ (j : ℕ). n ≡ worth s at w high j) e g.whole ∙ all s at w high, subst (λ (j : ℕ). n < 256 ^ j) e g.small)
