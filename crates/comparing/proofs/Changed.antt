-- 02 (xi): a row is in a range exactly if it differs; ranges are apart by at least one equal row; equal columns give none and none means equal; exchanged blocks
-- give the same ranges. Assumes nothing.
use Prim.Native.Nat.{ℕ, zero, suc, ◌≤◌, ◌<◌}
use native.Mathlib.Omega.{arith}
use mathlib.Core.Bool.{Bool, true, false, cond, not}
use mathlib.Core.List.{List, [], ◌∷◌}
use mathlib.Core.Logic.{⊎_elim, ◌↔◌}
use mathlib.Core.Path.{◌≡◌, refl, sym, ap, ◌∙◌}
use lib.Dec.{ltb}
use lib.ListN.{length, get_or}
use borrow.Author.Tests.{lt-ltb, le-ltb, not-false}
use Rattle.area.proofs.Laws.{lt-or-ge}
use Rattle.plain.specs.Rows.{Row, null, same}
use Rattle.plain.proofs.Same.{same-equal, same_self, same-sym}
use Rattle.descriptor.specs.declared.Descriptor.{Descriptor}
use Rattle.ranges.specs.Ranges.{Range, ranges_of}
use Rattle.ranges.specs.Exactly.{Has, ApartFrom}
use Rattle.ranges.proofs.Exactly.{in-a-range-exactly, ranges_apart, none-marked}
use Rattle.in_step.specs.Differences.{differences}
use Rattle.comparing.specs.Comparing.{described_rows, ranges_between}
use Rattle.comparing.specs.Changed.{differs_at}

-- ---- lists of rows
none_below : (i : ℕ) → ltb i 0 ≡ false
none_below i = le-ltb i 0 (omega arith)

first_below : (n : ℕ) → ltb 0 (suc n) ≡ true
first_below n = lt-ltb 0 (suc n) (omega arith)

next-below : (i n : ℕ) → ltb (suc i) (suc n) ≡ ltb i n
next-below i n = ⊎_elim
    (λ (h : i < n). lt-ltb (suc i) (suc n) (omega arith) ∙ sym (lt-ltb i n h))
    (λ (h : n ≤ i). le-ltb (suc i) (suc n) (omega arith) ∙ sym (le-ltb i n h))
    (lt-or-ge i n)

place-differs : (xs ys : List Row) (i : ℕ) → get_or (differences xs ys) i false ≡ differs_at xs ys i
unfolding differences differs_at
place-differs [] [] i = rw (none_below i)
place-differs [] (y ∷ ys) zero = rw (first_below (length ys))
place-differs [] (y ∷ ys) (suc i) = place-differs [] ys i ∙ rw (none_below i, none_below (suc i), next-below i (length ys))
place-differs (x ∷ xs) [] zero = rw (first_below (length xs))
place-differs (x ∷ xs) [] (suc i) = place-differs xs [] i ∙ rw (none_below i, none_below (suc i), next-below i (length xs))
place-differs (x ∷ xs) (y ∷ ys) zero = rw (first_below (length xs), first_below (length ys))
place-differs (x ∷ xs) (y ∷ ys) (suc i) = place-differs xs ys i ∙ rw (next-below i (length xs), next-below i (length ys))

never_true : true ≡ false → ⊥
never_true h = let z : ◌≡◌ {A = ℕ} 0 1 = cc in omega arith

none_differ : (xs ys : List Row) → ((i : ℕ) → get_or (differences xs ys) i false ≡ false) → xs ≡ ys
unfolding differences
none_differ [] [] h = refl
none_differ [] (y ∷ ys) h = absurd (never_true (h 0))
none_differ (x ∷ xs) [] h = absurd (never_true (h 0))
none_differ (x ∷ xs) (y ∷ ys) h =
    ap (λ (z : Row). z ∷ xs) (same-equal x y (not-false (same x y) (h 0)))
    ∙ ap (λ (l : List Row). y ∷ l) (none_differ xs ys (λ i. h (suc i)))

itself : (xs : List Row) (i : ℕ) → get_or (differences xs xs) i false ≡ false
unfolding differences
itself [] i = refl
itself (x ∷ xs) zero = ap not (same_self x)
itself (x ∷ xs) (suc i) = itself xs i

either_way : (xs ys : List Row) → differences xs ys ≡ differences ys xs
unfolding differences
either_way [] [] = refl
either_way [] (y ∷ ys) = ap (λ (l : List Bool). true ∷ l) (either_way [] ys)
either_way (x ∷ xs) [] = ap (λ (l : List Bool). true ∷ l) (either_way xs [])
either_way (x ∷ xs) (y ∷ ys) =
    ap (λ (t : Bool). not t ∷ differences xs ys) (same-sym x y) ∙ ap (λ (l : List Bool). not (same y x) ∷ l) (either_way xs ys)

-- ---- two blocks
module _ (a : Descriptor) (x : List ℕ) (b : Descriptor) (y : List ℕ) where
  -- A row is in a range exactly if it differs.
  pub in-a-range-if-it-differs : (i : ℕ) → (differs_at (described_rows a x) (described_rows b y) i ≡ true) ↔ Has (ranges_between a x b y) i
  in-a-range-if-it-differs i = rw (← place-differs (described_rows a x) (described_rows b y) i) (in-a-range-exactly (differences (described_rows a x) (described_rows b y)) i)

  -- Ranges ascend, and between two of them lies a row that is equal.
  pub equal-row-between : ApartFrom 0 (ranges_between a x b y)
  equal-row-between = ranges_apart (differences (described_rows a x) (described_rows b y))

  -- There are none exactly if the columns are equal, row for row and in number.
  pub none-if-equal : (ranges_between a x b y ≡ []) ↔ (described_rows a x ≡ described_rows b y)
  none-if-equal =
      let n = none-marked (differences (described_rows a x) (described_rows b y)) in (
        λ h. none_differ (described_rows a x) (described_rows b y) (n.0 h),
        λ e. n.1 (λ i. rw (← e) (itself (described_rows a x) i)),
      )

  -- The blocks exchanged give the same ranges.
  pub turned_round : ranges_between a x b y ≡ ranges_between b y a x
  turned_round = ap ranges_of (either_way (described_rows a x) (described_rows b y))
