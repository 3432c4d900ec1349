-- Counts that are added up: the number of what the walk came to, and the runs that are left after one more. Assumes nothing.
use Rattle.std.specs.Prelude.{Option, Result, Ok, Err}
use Prim.Native.Nat.{ℕ, ◌+◌, ◌-◌, ◌<◌}
use native.Mathlib.Omega.{arith}
use mathlib.Core.List.{List}
use mathlib.Core.Path.{◌≡◌, ap}
use lib.ListN.{length}
use borrow.Author.Tests.{eq-eqb, ne_eqb}
use Rattle.limits.specs.Refusals.{SUM}
use Rattle.varint.specs.declared.Count.{Count}
use Rattle.varint.specs.Varint.{count_at, counted}
use Rattle.rle.specs.RunLength.{walk_number}
use Rattle.rle.proofs.Walking.{Walking, walking_start, walk_step}

-- ---- the number of a walk that came to an end
module _ (rows : ℕ) {w : Result ℕ ℕ} where
  pub number-refused : {e : ℕ} → Err e ≡ w → e ≡ walk_number rows w
  unfolding walk_number
  number-refused h = ap (walk_number rows) h

  module _ {sum : ℕ} (h : Ok sum ≡ w) where
    pub number-other : (sum ≡ rows → ⊥) → SUM ≡ walk_number rows w
    unfolding walk_number
    number-other d = rw (← h) (simp (ne_eqb sum rows d))

    pub number_same : sum ≡ rows → 0 ≡ walk_number rows w
    unfolding walk_number
    number_same e = rw (← h) (simp (eq-eqb sum rows e))

-- ---- the loop: i runs are passed
pub sums-start : (s : List ℕ) (runs : ℕ) → Walking s runs 0 0 (runs - 0)
sums-start s runs = let m : runs - 0 ≡ runs = omega arith in rw m (walking_start s runs)

pub sums-step :
    {s : List ℕ} {runs at sum i : ℕ} → Walking s runs at sum (runs - i) → i < runs → at < length s → {r : Option Count} → r ≡ count_at s at
    → {v len : ℕ} → r ≡ counted v len → (v ≡ 0 → ⊥) → Walking s runs (at + len) (sum + v) (runs - (i + 1))
sums-step {runs = runs} {i = i} w l h e b z =
    let m : runs - i - 1 ≡ runs - (i + 1) = omega arith in
    rw m at (walk_step w (omega arith) h e b z)
