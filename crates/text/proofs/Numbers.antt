-- Decimal numbers: the digits that `io::decimal` gives are the definition's, and a number's text by its two's complement. Assumes nothing.
use Prim.Native.Nat.{ℕ, zero, suc, ◌+◌, ◌-◌, ◌*◌, ◌/◌, ◌%◌, ◌^◌, ◌≤◌, ◌<◌}
use native.Mathlib.Nat.{pow-suc, one-le-pow, pow-le-pow_right}
use native.Mathlib.Numerals.{add-one}
use native.Mathlib.Omega.{arith}
use mathlib.Core.Bool.{true, false}
use mathlib.Core.Logic.{⊎_elim}
use mathlib.Core.Path.{◌≡◌, sym, ap, ◌∙◌}
use mathlib.Core.List.{List, [], ◌∷◌, ◌++◌}
use lib.IntN.{ℤ}
use lib.ListN.{length, take, set, length-append}
use lib.Seq.{sets, take-take}
use mir.Syntax.{Width, w32, w64}
use mir.Val.{of_z, to_z, bits, hbits, SFits}
use mir.Facts.{to_z-of_z, to_z_pos, to_z-neg}
use borrow.Author.Tests.{lt-ltb, le-ltb}
use Rattle.area.proofs.Laws.{lt-or-ge, sets-append}
use Rattle.io.specs.Digits.{hex_digit_ascii, last_digits, IsDigitCount}
use Rattle.encode.specs.declared.Primitive.{Primitive}
use Rattle.text.specs.Text.{decimal_in, decimal, number_text, interval_text, is_interval, value_text}

-- ---- the digits
fewer : (n k : ℕ) → IsDigitCount 10 1 n (suc k) → 10 ≤ n → IsDigitCount 10 1 (n / 10) k
fewer n zero w h = absurd (omega (arith, w.1))
fewer n (suc j) w h =
    let p : 10 ^ suc (suc j) ≡ 10 ^ suc j * 10 = pow-suc 10 (suc j) in
    let q : 10 ^ suc j ≡ 10 ^ j * 10 = pow-suc 10 j in
    let a : n < 10 ^ suc (suc j) = w.1 in
    let m : suc (suc j) - 1 ≡ suc j = omega arith in
    let b : 10 ^ suc j ≤ n = rw m at (w.2 (omega arith)) in
    let z : suc j - 1 ≡ j = omega arith in
    (omega arith, omega arith, λ l. rw z (omega arith))

low_digit : (f n k : ℕ) → IsDigitCount 10 1 n (suc k) → n < 10 → last_digits 10 (suc k) n ≡ decimal_in (suc f) n
unfolding decimal_in
low_digit f n zero w h = let m : n % 10 ≡ n = omega arith in rw (m, lt-ltb n 10 h)
low_digit f n (suc j) w h =
    let q : 10 ^ suc j ≡ 10 ^ j * 10 = pow-suc 10 j in
    let o : 1 ≤ 10 ^ j = one-le-pow j 10 (omega arith) in
    let m : suc (suc j) - 1 ≡ suc j = omega arith in
    let b : 10 ^ suc j ≤ n = rw m at (w.2 (omega arith)) in
    absurd (omega arith)

more-digits :
    (f n k : ℕ) → last_digits 10 k (n / 10) ≡ decimal_in f (n / 10) → 10 ≤ n → last_digits 10 (suc k) n ≡ decimal_in (suc f) n
unfolding decimal_in
more-digits f n k e h = rw (le-ltb n 10 h) (ap (λ (l : List ℕ). l ++ (hex_digit_ascii (n % 10) ∷ [])) e)

pub digits_are : (f n k : ℕ) → IsDigitCount 10 1 n k → k ≤ f → last_digits 10 k n ≡ decimal_in f n
digits_are zero n k w h = absurd (omega (arith, w.0))
digits_are (suc f) n zero w h = absurd (omega (arith, w.0))
digits_are (suc f) n (suc k) w h =
    ⊎_elim
    (λ l. low_digit f n k w l)
    (λ g. more-digits f n k (digits_are f (n / 10) k (fewer n k w g) (omega arith)) g)
    (lt-or-ge n 10)

-- a number of 64 bits has at most 20
pub few-digits : (n k : ℕ) → IsDigitCount 10 1 n k → n < 18446744073709551616 → k ≤ 20
few-digits n k w h =
    ⊎_elim
    (λ l.
    let p : 10 ^ 20 ≤ 10 ^ (k - 1) = pow-le-pow_right (omega arith) {i = 20} {j = k - 1} (omega arith) in
    let q : 10 ^ (k - 1) ≤ n = w.2 (omega arith) in
    absurd (omega arith))
    (λ g. g)
    (lt-or-ge 20 k)

-- a text at a place, and the place behind it
abbrev pub Put : List ℕ → ℕ → ℕ → List ℕ → ℕ → List ℕ → Type 0
Put t most at out r out' = ((r ≡ at + length t) × (r ≤ at + most)) × (out' ≡ sets out at t)

pub digits-put :
    (n k at : ℕ) (ds out out' : List ℕ) → k ≤ 20 → k ≡ length (take k ds) → IsDigitCount 10 1 n k → take k ds ≡ last_digits 10 k n
    → out' ≡ sets out at (take k (take k ds)) → Put (decimal n) 20 at out (at + k) out'
digits-put n k at ds out out' h l w e q =
    let d : take k ds ≡ decimal n = e ∙ digits_are 20 n k w h in
    let m : k ≡ length (decimal n) = l ∙ ap length d in
    ((ap (λ (j : ℕ). at + j) m, omega arith), q ∙ ap (sets out at) (take-take k k ds (omega arith) ∙ d))

-- ---- the sign
text-low : (w : Width) (u : ℕ) → u < 2 ^ hbits w → decimal u ≡ number_text (to_z w u)
unfolding number_text
text-low w u h = rw (to_z_pos w h)

text-high : (w : Width) (u k : ℕ) → k < 2 ^ hbits w → u ≡ 2 ^ bits w - suc k → 45 ∷ decimal (suc k) ≡ number_text (to_z w u)
unfolding number_text
text-high w u k h e = rw (e, to_z-neg w k h)

module _ (w : Width) (u at : ℕ) (out : List ℕ) {r : ℕ} {out' : List ℕ} where
  pub put_low : u < 2 ^ hbits w → Put (decimal u) 20 at out r out' → Put (number_text (to_z w u)) 21 at out r out'
  put_low h p = rw (← text-low w u h) ((p.0.0, omega arith), p.1)

  pub put-high :
      (m k : ℕ) → k < 2 ^ hbits w → u ≡ 2 ^ bits w - suc k → m ≡ suc k → Put (decimal m) 20 (at + 1) (set out at 45) r out'
      → Put (number_text (to_z w u)) 21 at out r out'
  put-high m k h e q p =
      let l : r ≡ (at + 1) + length (decimal (suc k)) = rw q at p.0.0 in
      let s : out' ≡ sets (set out at 45) (suc at) (decimal (suc k)) = rw (q, add-one at) at p.1 in
      rw (← text-high w u k h e) ((omega arith, omega arith), s)

-- ---- an Interval
pub put_both :
    (u at : ℕ) (out : List ℕ) {to r : ℕ} {out₁ out' : List ℕ} → Put (number_text (to_z w32 (u / 4294967296))) 21 at out to out₁
    → Put (number_text (to_z w32 (u % 4294967296))) 21 (to + 1) (set out₁ to 32) r out' → Put (interval_text u) 43 at out r out'
unfolding interval_text
put_both u at out {to} {r} {out₁} {out'} p q =
    let a : List ℕ = number_text (to_z w32 (u / 4294967296)) in
    let b : List ℕ = number_text (to_z w32 (u % 4294967296)) in
    let l : length (a ++ (32 ∷ b)) ≡ length a + suc (length b) = length-append a (32 ∷ b) in (
      (omega arith, omega arith),
      q.1 ∙ rw (add-one to, p.1, p.0.0) (sym (sets-append a (32 ∷ b) out at)),
    )

-- ---- a value
pub put-interval : (p : Primitive) (v : ℤ) (at : ℕ) (out : List ℕ) {r n : ℕ} {out' : List ℕ} → is_interval p ≡ true → n ≡ of_z w64 v
    → Put (interval_text n) 43 at out r out' → Put (value_text p v) 43 at out r out'
unfolding value_text
put-interval p v at out i e q = rw (i, ← e) q

pub put_other : (p : Primitive) (v : ℤ) (at : ℕ) (out : List ℕ) {r n : ℕ} {out' : List ℕ} → is_interval p ≡ false → SFits w64 v → n ≡ of_z w64 v
    → Put (number_text (to_z w64 n)) 21 at out r out' → Put (value_text p v) 43 at out r out'
unfolding value_text
put_other p v at out {r} {n} {out'} i f e q =
    let z : to_z w64 n ≡ v = ap (to_z w64) e ∙ to_z-of_z f in
    let s : Put (number_text (to_z w64 n)) 43 at out r out' = ((q.0.0, omega arith), q.1) in
    rw i (rw z at s)
