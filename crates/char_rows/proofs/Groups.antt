-- The loop over groups of an item's bytes: none that was passed has a NUL. Assumes nothing.
use mathlib.Core.Path.{◌≡◌, refl, sym, ap, ◌∙◌}
use mathlib.Core.Bool.{Bool, true, false, cond}
use mathlib.Core.List.{List, [], ◌∷◌, ◌++◌}
use Prim.Native.Nat.{ℕ, suc, ◌+◌, ◌-◌, ◌*◌, ◌≤◌, ◌<◌}
use native.Mathlib.Nat.{zero-add, zero-mul}
use native.Mathlib.Omega.{arith}
use lib.Dec.{eqb}
use lib.ListN.{length, take, drop, length-drop}
use lib.Seq.{length-take-le, take-take, take-add, drop-drop}
use Rattle.plain.specs.Plain.{before_nul, char_at}
use Rattle.plain.proofs.Chars.{Uncut}

-- ---- where the first NUL of two lists, one after the other, lies: in the first one, or behind it
before-cut : (xs ys : List ℕ) → length (before_nul xs) < length xs → length (before_nul (xs ++ ys)) ≡ length (before_nul xs)
unfolding before_nul
before-cut [] ys h = absurd (omega arith)
before-cut (x ∷ xs) ys h = by (eqb x 0) (before-cut xs ys) h where
  by :
      (t : Bool) → (length (before_nul xs) < length xs → length (before_nul (xs ++ ys)) ≡ length (before_nul xs))
      → length (cond t [] (x ∷ before_nul xs)) < suc (length xs) → length (cond t [] (x ∷ before_nul (xs ++ ys))) ≡ length (cond t [] (x ∷ before_nul xs))
  by true i q = refl
  by false i q = ap suc (i (omega arith))

before-whole : (xs ys : List ℕ) → length xs ≤ length (before_nul xs) → length (before_nul (xs ++ ys)) ≡ length xs + length (before_nul ys)
unfolding before_nul
before-whole [] ys h = sym (zero-add (length (before_nul ys)))
before-whole (x ∷ xs) ys h = by (eqb x 0) (before-whole xs ys) h where
  by :
      (t : Bool) → (length xs ≤ length (before_nul xs) → length (before_nul (xs ++ ys)) ≡ length xs + length (before_nul ys))
      → suc (length xs) ≤ length (cond t [] (x ∷ before_nul xs)) → length (cond t [] (x ∷ before_nul (xs ++ ys))) ≡ suc (length xs) + length (before_nul ys)
  by true i q = absurd (omega arith)
  by false i q = let e = i (omega arith) in omega arith

-- what the code finds in a part of so many bytes
pub part-text : (k from : ℕ) (s : List ℕ) (m : ℕ) {r : ℕ} → m ≡ k → r ≡ length (char_at k (take m (drop from s)) 0) → r ≡ length (before_nul (take k (drop from s)))
unfolding char_at
part-text k from s m e q = q ∙ rw (e, zero-mul) (ap (λ (l : List ℕ). length (before_nul l)) (take-take k k (drop from s) (omega arith)))

pub part_room : (k from : ℕ) (s : List ℕ) (m : ℕ) → m ≡ k → from + k ≤ length s → 0 * k + k ≤ length (take m (drop from s))
part_room k from s m e h =
    let d = length-drop from s in
    let l : length (take m (drop from s)) ≡ m = length-take-le m (drop from s) (omega arith) in
    rw zero-mul (omega arith)

module _ {w : ℕ} {s : List ℕ} {i at n : ℕ} (g : Uncut w s i at n) where
  module _ (k : ℕ) (h : k ≤ w - n) (b : at + w ≤ length s) {r : ℕ} (found : r ≡ length (before_nul (take k (drop (at + n) s)))) where
    abbrev part : List ℕ
    part = take k (drop (at + n) s)

    abbrev later : List ℕ
    later = take (w - (n + k)) (drop (at + (n + k)) s)

    long : length (take k (drop (at + n) s)) ≡ k
    long = let d = length-drop (at + n) s in length-take-le k (drop (at + n) s) (omega (arith, g.sound))

    split : take (w - n) (drop (at + n) s) ≡ part ++ later
    split =
        let e : w - n ≡ k + (w - (n + k)) = omega arith in
        let a : at + n + k ≡ at + (n + k) = omega arith in
        ap (λ (j : ℕ). take j (drop (at + n) s)) e
        ∙ take-add k (w - (n + k)) (drop (at + n) s)
        ∙ ap (λ (l : List ℕ). take k (drop (at + n) s) ++ take (w - (n + k)) l) (drop-drop k (at + n) s ∙ ap (λ (j : ℕ). drop j s) a)

    pub group-stop : r < k → n + r ≡ length (char_at w s i)
    group-stop l =
        let q = long in
        let e : length (before_nul (take (w - n) (drop (at + n) s))) ≡ length (before_nul part) =
        ap (λ (l : List ℕ). length (before_nul l)) split ∙ before-cut part later (omega arith) in
        omega (arith, g.whole)

    pub group-step : k ≤ r → Uncut w s i at (n + k)
    group-step l =
        let q = long in
        let e : length (before_nul (take (w - n) (drop (at + n) s))) ≡ length part + length (before_nul later) =
        ap (λ (l : List ℕ). length (before_nul l)) split ∙ before-whole part later (omega arith) in
        record { whole = omega (arith, g.whole, long); sound = omega (arith, g.sound) }

  pub group-end : {r : ℕ} → r ≡ length (before_nul (take (w - n) (drop (at + n) s))) → n + r ≡ length (char_at w s i)
  group-end q = omega (arith, g.whole)
