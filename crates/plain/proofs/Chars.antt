-- Chars: the first NUL of an item, and the bytes before it; a loop that looks for it. Assumes nothing.
use mathlib.Core.Path.{◌≡◌, refl, sym, ap, ◌∙◌}
use mathlib.Core.Bool.{Bool, true, false, cond}
use mathlib.Core.List.{List, [], ◌∷◌}
use Prim.Native.Nat.{ℕ, suc, ◌+◌, ◌-◌, ◌*◌, ◌≤◌, ◌<◌}
use native.Mathlib.Nat.{add-zero}
use native.Mathlib.Omega.{arith}
use borrow.Author.Tests.{eq-eqb, ne_eqb}
use lib.Dec.{eqb}
use lib.ListN.{length, take, drop, get_or, length-take}
use lib.Seq.{drop-cons, take-take}
use Rattle.std.proofs.lemmas.Iterator.{index_from_first}
use Rattle.std.specs.List.{AllWithin, HoldsAt}
use Rattle.std.specs.Prelude.{Option, MatchOption, unwrap_or}
use Rattle.plain.specs.Plain.{before_nul, char_at}

-- what stands before the first NUL is the start of the list
pub take-before : (l : List ℕ) → take (length (before_nul l)) l ≡ before_nul l
unfolding before_nul
take-before [] = refl
take-before (b ∷ l) = by (eqb b 0) (take-before l) where
  by : (t : Bool) → take (length (before_nul l)) l ≡ before_nul l → take (length (cond t [] (b ∷ before_nul l))) (b ∷ l) ≡ cond t [] (b ∷ before_nul l)
  by true h = refl
  by false h = ap (λ (m : List ℕ). b ∷ m) h

pub length_before : (l : List ℕ) → length (before_nul l) ≤ length l
length_before l =
    let e : length (take (length (before_nul l)) l) ≡ length (before_nul l) = ap length (take-before l) in
    let m = length-take (length (before_nul l)) l in
    omega arith

-- a char is no longer than the width, and its bytes stand at its item's start
module _ (w : ℕ) (s : List ℕ) (i : ℕ) where
  pub length-char : length (char_at w s i) ≤ w
  unfolding char_at
  length-char =
      let a : length (before_nul (take w (drop (i * w) s))) ≤ length (take w (drop (i * w) s)) = length_before (take w (drop (i * w) s)) in
      let b = length-take w (drop (i * w) s) in
      omega arith

  pub take-char : take (length (char_at w s i)) (drop (i * w) s) ≡ char_at w s i
  unfolding char_at
  take-char =
      let l : List ℕ = take w (drop (i * w) s) in
      sym (take-take (length (before_nul l)) w (drop (i * w) s) length-char) ∙ take-before l

-- what stands before the first NUL is as long as that one's place, or as the list where there is none
abbrev pub IsNul : ℕ → Type 0
IsNul b = b ≡ 0

abbrev pub IsOther : ℕ → Type 0
IsOther b = b ≡ 0 → ⊥

none-before : (b : ℕ) (bs : List ℕ) → IsNul b → length (before_nul (b ∷ bs)) ≡ 0
unfolding before_nul
none-before b bs h = simp (eq-eqb b 0 h)

one-more : (b : ℕ) (bs : List ℕ) → IsOther b → length (before_nul (b ∷ bs)) ≡ length (before_nul bs) + 1
unfolding before_nul
one-more b bs h = simp (ne_eqb b 0 h) (omega arith)

nothing : length (before_nul []) ≡ 0
unfolding before_nul
nothing = refl

pub length_first :
    (bs : List ℕ) (r : Option ℕ) → MatchOption r (AllWithin IsOther bs 0 (length bs)) (λ i. (i < length bs) × HoldsAt IsNul bs i × AllWithin IsOther bs 0 i)
    → length (before_nul bs) ≡ unwrap_or r (length bs)
length_first bs r h = index_from_first (λ (l : List ℕ). length (before_nul l)) IsNul IsOther nothing none-before one-more bs r h

-- for the crates above: the loop over an item's bytes: none of the n that were passed is a NUL
pub record Uncut (w : ℕ) (s : List ℕ) (i at n : ℕ) : Type 0 where
  pub whole : length (char_at w s i) ≡ n + length (before_nul (take (w - n) (drop (at + n) s)))
  pub sound : n ≤ w

pub uncut-start : (w : ℕ) (s : List ℕ) (i at : ℕ) → at ≡ i * w → Uncut w s i at 0
unfolding char_at
uncut-start w s i at e =
    let z : w - 0 ≡ w = omega arith in
    record { whole = rw (z, add-zero, e) (omega arith); sound = omega arith }

module _ {w : ℕ} {s : List ℕ} {i at n : ℕ} (g : Uncut w s i at n) where
  module _ (h : n < w) (b : at + n < length s) where
    cell : take (w - n) (drop (at + n) s) ≡ get_or s (at + n) 0 ∷ take (w - (n + 1)) (drop (at + (n + 1)) s)
    cell =
        let e : w - n ≡ suc (w - (n + 1)) = omega arith in
        let f : suc (at + n) ≡ at + (n + 1) = omega arith in
        rw (drop-cons s (at + n) 0 b, e, f)

    pub uncut-stop : get_or s (at + n) 0 ≡ 0 → n ≡ length (char_at w s i)
    unfolding before_nul
    uncut-stop z = sym (g.whole ∙ rw cell (simp (eq-eqb (get_or s (at + n) 0) 0 z, add-zero)))

    pub uncut-step : (get_or s (at + n) 0 ≡ 0 → ⊥) → Uncut w s i at (n + 1)
    unfolding before_nul
    uncut-step z = record {
      whole = g.whole ∙ rw cell (simp (ne_eqb (get_or s (at + n) 0) 0 z) (omega arith));
      sound = omega arith;
    }

  pub uncut-end : w ≤ n → n ≡ length (char_at w s i)
  unfolding before_nul
  uncut-end h = let z : w - n ≡ 0 = omega arith in sym (g.whole ∙ rw (z, add-zero))
