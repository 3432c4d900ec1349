-- Bytes below 128 are text, and so is each part of them. Assumes nothing.
use Prim.Native.Nat.{ℕ, zero, suc, ◌+◌, ◌-◌, ◌<◌, ◌≤◌}
use native.Mathlib.Nat.{add-zero}
use native.Mathlib.Omega.{arith}
use mathlib.Core.Bool.{Bool, true, false, ◌&&◌, and-eq-true_iff}
use mathlib.Core.List.{List, [], ◌∷◌}
use mathlib.Core.Path.{◌≡◌, refl, sym, ap, ◌∙◌}
use lib.Dec.{ltb}
use lib.ListN.{length, get_or, take, drop}
use lib.Seq.{drop-cons}
use borrow.Author.Tests.{ltb-true, ltb-false, lt-ltb, le-leb}
use Rattle.utf8.specs.Utf8.{Due, due, next, after, whole, is_text}
use Rattle.utf8.specs.States.{is_ascii}

one_byte : (b : ℕ) → b < 128 → next (due []) b ≡ due []
one_byte b h = let z : b ≤ 0x7f = omega arith in simp (le-leb 0 b (omega arith), le-leb b 0x7f z)

ascii-due : (bs : List ℕ) → is_ascii bs ≡ true → after (due []) bs ≡ due []
unfolding is_ascii after
ascii-due [] h = refl
ascii-due (b ∷ bs) h =
    let p = (and-eq-true_iff (ltb b 128) (is_ascii bs)).0 h in
    ap (λ (d : Due). after d bs) (one_byte b (ltb-true b 128 p.0)) ∙ ascii-due bs p.1

pub ascii-text : (bs : List ℕ) → is_ascii bs ≡ true → is_text bs ≡ true
unfolding is_text
ascii-text bs h = ap whole (ascii-due bs h)

ascii_take : (n : ℕ) (bs : List ℕ) → is_ascii bs ≡ true → is_ascii (take n bs) ≡ true
unfolding is_ascii
ascii_take zero bs h = refl
ascii_take (suc n) [] h = refl
ascii_take (suc n) (b ∷ bs) h =
    let p = (and-eq-true_iff (ltb b 128) (is_ascii bs)).0 h in
    rw p.0 (ascii_take n bs p.1)

ascii_drop : (n : ℕ) (bs : List ℕ) → is_ascii bs ≡ true → is_ascii (drop n bs) ≡ true
unfolding is_ascii
ascii_drop zero bs h = h
ascii_drop (suc n) [] h = refl
ascii_drop (suc n) (b ∷ bs) h = ascii_drop n bs ((and-eq-true_iff (ltb b 128) (is_ascii bs)).0 h).1

-- each part of them
pub ascii-part : (from n : ℕ) (bs : List ℕ) → is_ascii bs ≡ true → is_ascii (take n (drop from bs)) ≡ true
ascii-part from n bs h = ascii_take n (drop from bs) (ascii_drop from bs h)

-- ---- the loop over the bytes: the largest so far, and what is left, decide
pub record Topped (s : List ℕ) (from n top i : ℕ) : Type 0 where
  pub rest : is_ascii (take n (drop from s)) ≡ (ltb top 128 && is_ascii (take (n - i) (drop (from + i) s)))
  pub sound : i ≤ n

pub topped-start : (s : List ℕ) (from n : ℕ) → Topped s from n 0 0
topped-start s from n = let z : n - 0 ≡ n = omega arith in record { rest = rw (z, add-zero); sound = omega arith }

and_assoc : (a b c : Bool) → (a && (b && c)) ≡ ((a && b) && c)
and_assoc true b c = refl
and_assoc false b c = refl

-- the larger of two numbers is below 128 if both are
larger-below : (a b r : ℕ) → (a ≤ b → r ≡ b) × (b ≤ a → r ≡ a) → (ltb a 128 && ltb b 128) ≡ ltb r 128
larger-below a b r m = by (ltb a b) refl
  where
    and-false : (t : Bool) → (t && false) ≡ false
    and-false true = refl
    and-false false = refl

    under : a < b → (t : Bool) → ltb b 128 ≡ t → (ltb a 128 && t) ≡ t
    under h true e = let l = ltb-true b 128 e in simp (lt-ltb a 128 (omega arith))
    under h false e = and-false (ltb a 128)

    over : b ≤ a → (t : Bool) → ltb a 128 ≡ t → (t && ltb b 128) ≡ t
    over h true e = let l = ltb-true a 128 e in lt-ltb b 128 (omega arith)
    over h false e = refl

    by : (t : Bool) → ltb a b ≡ t → (ltb a 128 && ltb b 128) ≡ ltb r 128
    by true e = let l = ltb-true a b e in under l (ltb b 128) refl ∙ ap (λ (n : ℕ). ltb n 128) (sym (m.0 (omega arith)))
    by false e = let l = ltb-false a b e in over l (ltb a 128) refl ∙ ap (λ (n : ℕ). ltb n 128) (sym (m.1 l))

module _ {s : List ℕ} {from n top i : ℕ} (g : Topped s from n top i) where
  pub topped-step :
      i < n → from + n ≤ length s → (b r : ℕ) → b ≡ get_or s (from + i) 0 → (top ≤ b → r ≡ b) × (b ≤ top → r ≡ top) → Topped s from n r (i + 1)
  unfolding is_ascii
  topped-step l h b r e m =
      let j : n - i ≡ suc (n - (i + 1)) = omega arith in
      let f : suc (from + i) ≡ from + (i + 1) = omega arith in
      let c : from + i < length s = omega arith in
      record {
        rest =
            rw (j, drop-cons s (from + i) 0 c, ← e, f) at g.rest
            ∙ and_assoc (ltb top 128) (ltb b 128) (is_ascii (take (n - (i + 1)) (drop (from + (i + 1)) s)))
            ∙ ap (λ (t : Bool). t && is_ascii (take (n - (i + 1)) (drop (from + (i + 1)) s))) (larger-below top b r m);
        sound = omega arith;
      }

  pub topped-end : n ≤ i → ltb top 128 ≡ is_ascii (take n (drop from s))
  unfolding is_ascii
  topped-end h = let z : n - i ≡ 0 = omega arith in sym (g.rest ∙ rw z (and-true (ltb top 128)))
    where
      and-true : (a : Bool) → (a && true) ≡ a
      and-true true = refl
      and-true false = refl
