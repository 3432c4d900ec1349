-- The loops that count the bytes that are no NULs, and that texts have no more bytes than that. Assumes nothing.
use mathlib.Core.Path.{◌≡◌, refl, sym, ap, ◌∙◌}
use mathlib.Core.Bool.{Bool, true, false, cond}
use mathlib.Core.Logic.{⊎_elim}
use mathlib.Core.List.{List, [], ◌∷◌, ◌++◌}
use Prim.Native.Nat.{ℕ, zero, suc, ◌+◌, ◌-◌, ◌*◌, ◌≤◌, ◌<◌}
use native.Mathlib.Nat.{add-zero, zero-add, suc-mul}
use native.Mathlib.Omega.{arith}
use borrow.Author.Tests.{eq-eqb, ne_eqb}
use lib.Dec.{eqb}
use lib.ListN.{length, take, drop, get_or, length-append}
use lib.Seq.{drop-cons, drop-drop, take-add}
use Rattle.area.proofs.Laws.{lt-or-ge}
use Rattle.plain.specs.Plain.{places, joined, before_nul, char_at}
use Rattle.char_rows.specs.Chars.{letters}

letters-append : (xs ys : List ℕ) → letters (xs ++ ys) ≡ letters xs + letters ys
unfolding letters
letters-append [] ys = sym (zero-add (letters ys))
letters-append (x ∷ xs) ys = rw (letters-append xs ys) (omega arith)

-- so many bytes, and then those that follow
letters-add : (m n at : ℕ) (s : List ℕ) → letters (take (m + n) (drop at s)) ≡ letters (take m (drop at s)) + letters (take n (drop (at + m) s))
letters-add m n at s =
    ap letters (take-add m n (drop at s) ∙ ap (λ (l : List ℕ). take m (drop at s) ++ take n l) (drop-drop m at s))
    ∙ letters-append (take m (drop at s)) (take n (drop (at + m) s))

-- ---- what stands before the first NUL has none
before-letters : (l : List ℕ) → length (before_nul l) ≤ letters l
unfolding before_nul letters
before-letters [] = omega arith
before-letters (b ∷ l) = by (eqb b 0) (before-letters l) where
  by : (t : Bool) → length (before_nul l) ≤ letters l → length (cond t [] (b ∷ before_nul l)) ≤ cond t 0 1 + letters l
  by true h = omega arith
  by false h = omega arith

texts-most : (w : ℕ) (s : List ℕ) (n from : ℕ) → length (joined (char_at w s) (places n from)) ≤ letters (take (n * w) (drop (from * w) s))
unfolding places joined char_at
texts-most w s zero from = omega arith
texts-most w s (suc n) from =
    let i : length (joined (char_at w s) (places n (suc from))) ≤ letters (take (n * w) (drop (suc from * w) s)) = texts-most w s n (suc from) in
    let e : suc from * w ≡ from * w + w = suc-mul from w in
    let m : suc n * w ≡ w + n * w = suc-mul n w ∙ omega arith in
    let b = before-letters (take w (drop (from * w) s)) in
    let a = length-append (char_at w s from) (joined (char_at w s) (places n (suc from))) in
    let t : letters (take (w + n * w) (drop (from * w) s)) ≡ letters (take w (drop (from * w) s)) + letters (take (n * w) (drop (from * w + w) s)) = letters-add w (n * w) (from * w) s in
    rw (m, t, ← e) (omega arith)

-- ---- `count`
-- what the code counts for a byte
one-letter : (x : ℕ) {one : ℕ} → (x ≡ 0 → one ≡ 0) × (0 < x → one ≡ 1) → (one ≡ cond (eqb x 0) 0 1) × (one ≤ 1)
one-letter x {one} o =
    ⊎_elim
    (λ z. let q : one ≡ 1 = o.1 z in (simp (ne_eqb x 0 (λ y. omega arith)) q, omega arith))
    (λ z. let y : x ≡ 0 = omega arith in let q : one ≡ 0 = o.0 y in (simp (eq-eqb x 0 y) q, omega arith))
    (lt-or-ge 0 x)

pub record Counting (s : List ℕ) (at n found i : ℕ) : Type 0 where
  pub rest : found + letters (take (n - i) (drop (at + i) s)) ≡ letters (take n (drop at s))
  pub few : found ≤ i
  pub sound : i ≤ n

pub counting-start : (s : List ℕ) (at n : ℕ) → Counting s at n 0 0
counting-start s at n =
    let z : n - 0 ≡ n = omega arith in
    record { rest = rw (z, add-zero) (omega arith); few = omega arith; sound = omega arith }

module _ {s : List ℕ} {at n found i : ℕ} (g : Counting s at n found i) where
  pub counting-step : i < n → at + i < length s → {one : ℕ} → (get_or s (at + i) 0 ≡ 0 → one ≡ 0) × (0 < get_or s (at + i) 0 → one ≡ 1) → (Counting s at n (found + one) (i + 1)) × (one ≤ 1)
  unfolding letters
  counting-step h b {one} o =
      let x : ℕ = get_or s (at + i) 0 in
      let rest : ℕ = letters (take (n - (i + 1)) (drop (at + (i + 1)) s)) in
      let e : n - i ≡ suc (n - (i + 1)) = omega arith in
      let f : suc (at + i) ≡ at + (i + 1) = omega arith in
      let c : take (n - i) (drop (at + i) s) ≡ x ∷ take (n - (i + 1)) (drop (at + (i + 1)) s) = rw (drop-cons s (at + i) 0 b, e, f) in
      let r : found + (cond (eqb x 0) 0 1 + rest) ≡ letters (take n (drop at s)) = rw c at g.rest in
      let q = one-letter x o in
      (record { rest = omega (arith, q.0); few = omega (arith, g.few, q.1); sound = omega arith }, q.1)

  pub counting-end : n ≤ i → (found ≡ letters (take n (drop at s))) × (found ≤ n)
  unfolding letters
  counting-end h =
      let z : n - i ≡ 0 = omega arith in
      let r : found + 0 ≡ letters (take n (drop at s)) = rw z at g.rest in
      (omega arith, omega (arith, g.few))

-- ---- `most`
pub record Bounding (w : ℕ) (s : List ℕ) (from n at left found : ℕ) : Type 0 where
  pub rest : found + letters (take left (drop at s)) ≡ letters (take (n * w) (drop (from * w) s))
  pub place : at + left ≡ from * w + n * w
  pub few : found + left ≤ n * w

pub bounding-start : (w : ℕ) (s : List ℕ) (from n : ℕ) → Bounding w s from n (from * w) (n * w) 0
bounding-start w s from n = record { rest = omega arith; place = refl; few = omega arith }

module _ {w : ℕ} {s : List ℕ} {from n at left found : ℕ} (g : Bounding w s from n at left found) where
  pub bounding-step : (k : ℕ) → k ≤ left → {more : ℕ} → (more ≡ letters (take k (drop at s))) × (more ≤ k) → Bounding w s from n (at + k) (left - k) (found + more)
  bounding-step k h {more} m =
      let e : left ≡ k + (left - k) = omega arith in
      let a : letters (take left (drop at s)) ≡ letters (take (k + (left - k)) (drop at s)) = ap (λ (j : ℕ). letters (take j (drop at s))) e in
      let t : letters (take (k + (left - k)) (drop at s)) ≡ letters (take k (drop at s)) + letters (take (left - k) (drop (at + k) s)) = letters-add k (left - k) at s in
      let r : found + letters (take left (drop at s)) ≡ letters (take (n * w) (drop (from * w) s)) = g.rest in
      record { rest = omega (arith, m.0); place = omega (arith, g.place); few = omega (arith, g.few, m.1) }

  pub bounding-end : {more : ℕ} → more ≡ letters (take left (drop at s)) → length (joined (char_at w s) (places n from)) ≤ found + more
  bounding-end m =
      let t = texts-most w s n from in
      let r : found + letters (take left (drop at s)) ≡ letters (take (n * w) (drop (from * w) s)) = g.rest in
      omega arith
