-- The differences of two lists: of the rows that both have, and behind them each row that one has alone. Assumes nothing.
use Prim.Native.Nat.{ℕ, zero, suc, ◌+◌, ◌-◌, ◌≤◌, ◌<◌, min}
use native.Mathlib.Nat.{min-le_left, min-le_right, zero-add, add-zero}
use native.Mathlib.Omega.{arith}
use mathlib.Core.Bool.{Bool, true}
use mathlib.Core.List.{List, [], ◌∷◌, ◌++◌}
use mathlib.Core.Logic.{◌⊎◌, inl, inr, ⊎_elim}
use mathlib.Core.Path.{◌≡◌, refl, sym, ap, ◌∙◌}
use lib.ListN.{length, take, drop, replicate, take-append-drop, length-drop, drop_of_length-le}
use lib.Seq.{length-take-le}
use Rattle.area.proofs.Laws.{lt-or-ge}
use Rattle.plain.specs.Rows.{Row}
use Rattle.in_step.specs.Differences.{differences}
use Rattle.in_step.proofs.Lists.{differences-append}

first_alone : (xs : List Row) → differences xs [] ≡ replicate (length xs) true
unfolding differences
first_alone [] = refl
first_alone (x ∷ xs) = ap (λ (l : List Bool). true ∷ l) (first_alone xs)

second-alone : (ys : List Row) → differences [] ys ≡ replicate (length ys) true
unfolding differences
second-alone [] = refl
second-alone (y ∷ ys) = ap (λ (l : List Bool). true ∷ l) (second-alone ys)

-- behind the shorter list one of the two has nothing
behind : (us vs : List Row) → (length us ≡ 0) ⊎ (length vs ≡ 0) → differences us vs ≡ replicate (length us + length vs) true
behind [] vs h = second-alone vs ∙ rw zero-add
behind (u ∷ us) [] h = first_alone (u ∷ us) ∙ rw add-zero
behind (u ∷ us) (v ∷ vs) h = ⊎_elim (λ z. absurd (omega arith)) (λ z. absurd (omega arith)) h

shorter-ends : (n k m : ℕ) → m ≡ min n k → (n - m ≡ 0) ⊎ (k - m ≡ 0)
shorter-ends n k m e = ⊎_elim (λ (h : n < k). inl (omega (arith, e))) (λ (h : k ≤ n). inr (omega (arith, e))) (lt-or-ge n k)

pub in-both-and-one : (xs ys : List Row) (m : ℕ) → m ≡ min (length xs) (length ys)
    → differences xs ys ≡ differences (take m xs) (take m ys) ++ replicate ((length xs - m) + (length ys - m)) true
in-both-and-one xs ys m e =
    let l : length (take m xs) ≡ m = length-take-le m xs (omega (arith, e, min-le_left (length xs) (length ys))) in
    let r : length (take m ys) ≡ m = length-take-le m ys (omega (arith, e, min-le_right (length xs) (length ys))) in
    let us : length (drop m xs) ≡ length xs - m = length-drop m xs in
    let vs : length (drop m ys) ≡ length ys - m = length-drop m ys in
    ap (λ (l : List Row). differences l ys) (sym (take-append-drop m xs))
    ∙ ap (differences (take m xs ++ drop m xs)) (sym (take-append-drop m ys))
    ∙ differences-append (take m xs) (take m ys) (drop m xs) (drop m ys) (l ∙ sym r)
    ∙ ap (λ (bs : List Bool). differences (take m xs) (take m ys) ++ bs)
    (behind (drop m xs) (drop m ys) (⊎_elim (λ z. inl (us ∙ z)) (λ z. inr (vs ∙ z)) (shorter-ends (length xs) (length ys) m e)) ∙ rw (us, vs))

-- so many differences as the longer list has rows
pub length-differences-max : (xs ys : List Row) → length (differences xs ys) ≡ length xs - min (length xs) (length ys) + length ys
unfolding differences
length-differences-max [] [] = refl
length-differences-max [] (y ∷ ys) = omega (arith, length-differences-max [] ys)
length-differences-max (x ∷ xs) [] = omega (arith, length-differences-max xs [])
length-differences-max (x ∷ xs) (y ∷ ys) = omega (arith, length-differences-max xs ys)
