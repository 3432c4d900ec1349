-- The weight of rows, run by run: the sum is capped on the way, and the first row that isn't good ends it. Assumes nothing.
use Prim.Native.Nat.{ℕ, zero, suc, ◌+◌, ◌-◌, ◌*◌, ◌^◌, ◌≤◌, ◌<◌}
use native.Mathlib.Nat.{add-zero, zero-mul, mul-le-mul_left}
use native.Mathlib.Omega.{arith}
use mathlib.Core.Bool.{Bool, true, false}
use mathlib.Core.List.{List, ◌++◌}
use mathlib.Core.Logic.{⊎_elim}
use mathlib.Core.Path.{◌≡◌, refl, sym, ◌∙◌}
use lib.ListN.{replicate}
use Rattle.std.specs.Prelude.{Some, None, Option}
use borrow.Author.Tests.{lt-ltb, le-ltb}
use Rattle.area.proofs.Laws.{lt-or-ge}
use Rattle.limits.specs.Limits.{MOST_BYTES, MOST_GIVEN}
use Rattle.plain.specs.Plain.{all_of}
use Rattle.rle.specs.declared.Spot.{Spot}
use Rattle.rle.specs.declared.Piece.{Piece}
use Rattle.rle.specs.Stepping.{Steps, stuck, rows, before}
use Rattle.rle.specs.Pieces.{run_piece, piece_in, steps_in}
use Rattle.source.specs.Rows.{StartsBy, capped, sum_of, weighed, weighed_by}
use Rattle.source.proofs.Folds.{all_append, all_same, all-bad, sum-append, sum_same}
use Rattle.source.proofs.Progress.{Progress, progress_start, progress-end, progress-stuck, progress-on, whole-on}
use Rattle.source.proofs.Filled.{run-same}

-- ---- a number that is capped
abbrev past : ℕ
past = MOST_GIVEN + 1

pub capped_small : (t : ℕ) → t ≤ past → capped t ≡ t
unfolding capped
capped_small t h = simp (le-ltb past t h)

pub capped-large : (t : ℕ) → past < t → capped t ≡ past
unfolding capped
capped-large t h = simp (lt-ltb past t h)

pub capped_le : (t : ℕ) → capped t ≤ past
capped_le t = ⊎_elim (λ (h : past < t). rw (capped-large t h) (omega arith)) (λ (h : t ≤ past). rw (capped_small t h) h) (lt-or-ge past t)

-- a sum may be capped on the way
capped-capped : (a b : ℕ) → capped (capped a + b) ≡ capped (a + b)
capped-capped a b = ⊎_elim
    (λ (h : past < a). rw (capped-large a h, capped-large (a + b) (omega arith)) (more b))
    (λ (h : a ≤ past). rw (capped_small a h))
    (lt-or-ge past a)
  where
    more : (c : ℕ) → capped (past + c) ≡ past
    more zero = rw add-zero (capped_small past (omega arith))
    more (suc c) = capped-large (past + suc c) (omega arith)

-- ---- the weight of all rows: there is none where one isn't good
module _ (p : ℕ → Bool) (f : ℕ → ℕ) where
  weighed-bad : (is : List ℕ) (w : Steps) → all_of p is ≡ false → None ≡ weighed_by p f (before is w)
  unfolding weighed_by before
  weighed-bad is stuck h = refl
  weighed-bad is (rows js t) h = rw (all_append p is js, h)

  weighed-good : (is : List ℕ) (t : Spot) → all_of p is ≡ true → Some (weighed (capped (sum_of f is)) t) ≡ weighed_by p f (rows is t)
  unfolding weighed_by
  weighed-good is t h = rw h

  weighed-stuck : {w : Steps} → w ≡ stuck → None ≡ weighed_by p f w
  unfolding weighed_by
  weighed-stuck e = rw e

-- the bytes of the rows of one run fit a number of 64 bits
pub product : (m d : ℕ) → m < 2 ^ 32 → d ≤ MOST_BYTES → m * d ≤ (MOST_GIVEN + 1) * MOST_BYTES
product m d h k = let a : m * d ≤ m * MOST_BYTES = mul-le-mul_left m k in omega arith

-- ---- the loops of `weigh`
pub record Weighing (p : ℕ → Bool) (f : ℕ → ℕ) (coded : Bool) (runs : ℕ) (counts : List ℕ) (n : ℕ) (from at : Spot) (left total : ℕ) : Type 0 where
  pub progress : Progress coded runs counts n from at left
  pub right : all_of p progress.done ≡ true
  pub weight : total ≡ capped (sum_of f progress.done)

pub weighing-start : (p : ℕ → Bool) (f : ℕ → ℕ) (coded : Bool) (runs : ℕ) (counts : List ℕ) (n : ℕ) (from : Spot)
    → StartsBy coded from.run runs n → Weighing p f coded runs counts n from from n 0
unfolding all_of sum_of progress_start
weighing-start p f coded runs counts n from h =
    record { progress = progress_start coded runs counts n from h; right = refl; weight = sym (capped_small 0 (omega arith)) }

module _ {p : ℕ → Bool} {f : ℕ → ℕ} {coded : Bool} {runs : ℕ} {counts : List ℕ} {n : ℕ} {from at : Spot} {left total : ℕ}
    (w : Weighing p f coded runs counts n from at left total) where
  pub weighing-small : total ≤ past
  weighing-small = omega (arith, w.weight, capped_le (sum_of f w.progress.done))

  pub weighing-end : left ≤ 0 → Some (weighed total at) ≡ weighed_by p f (steps_in coded runs counts n from)
  weighing-end h = rw (w.weight, progress-end w.progress h) (weighed-good p f w.progress.done at w.right)

  module _ (l : 0 < left) {x : Option Piece} (e : x ≡ piece_in coded runs counts at left) where
    pub weighing-stuck : x ≡ None → None ≡ weighed_by p f (steps_in coded runs counts n from)
    weighing-stuck b = weighed-stuck p f (progress-stuck w.progress l e b)

    module _ {k : ℕ} {t : Spot} (b : x ≡ Some (run_piece k t)) where
      pub weighing-broken : 0 < k → p at.run ≡ false → None ≡ weighed_by p f (steps_in coded runs counts n from)
      weighing-broken m h =
          rw (whole-on w.progress l e b) (weighed-bad p f (w.progress.done ++ replicate k at.run) _ (all-bad p w.progress.done k at.run m h))

      -- the step: the rows of the run are good, and d bytes long
      pub weighing-on : (0 < k → p at.run ≡ true) → {d : ℕ} → (0 < k → d ≡ f at.run) → {sum : ℕ} → sum ≡ capped (total + k * d)
          → Weighing p f coded runs counts n from t (left - k) sum
      unfolding progress-on
      weighing-on h {d} g q =
          let is : List ℕ = w.progress.done in
          let js : List ℕ = replicate k at.run in
          let m : k * d ≡ k * f at.run = run-same (λ (c : ℕ). k * c) k (λ z. rw z (zero-mul d ∙ sym (zero-mul _))) g in
          record {
            progress = progress-on w.progress l e b;
            right = rw (all_append p is js, w.right) (all_same p k at.run h);
            weight = q ∙ rw (m, w.weight, capped-capped (sum_of f is) (k * f at.run), sum-append f is js, sum_same f k at.run);
          }
