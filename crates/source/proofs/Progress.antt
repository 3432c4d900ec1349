-- The loops over runs: where reading stands after some of the rows, by the runs in which these lie. Assumes nothing.
use Prim.Native.Nat.{ℕ, ◌+◌, ◌-◌, ◌^◌, ◌≤◌, ◌<◌}
use native.Mathlib.Omega.{arith}
use mathlib.Core.Bool.{Bool, true, false}
use mathlib.Core.List.{List, [], ◌++◌, append-nil}
use mathlib.Core.Path.{◌≡◌, refl, sym, ap, subst, ◌∙◌}
use lib.ListN.{length, replicate, length-append, length-replicate}
use Rattle.std.specs.Prelude.{Option, Some, None}
use Rattle.limits.specs.Limits.{MOST_ITEMS}
use Rattle.plain.specs.Plain.{all_of}
use Rattle.rle.specs.declared.Spot.{Spot}
use Rattle.rle.specs.declared.Piece.{Piece}
use Rattle.rle.specs.Stepping.{Steps, stuck, rows, before}
use Rattle.rle.specs.Pieces.{run_piece, piece_in, steps_in, Fine, step_runs}
use Rattle.rle.proofs.Steps.{before-nil, before-before, steps-zero, coded-room}
use Rattle.rle.proofs.Pieces.{piece-stuck, piece-rows, piece-most, piece-less, piece_inside, piece-alone}
use Rattle.source.specs.Rows.{StartsBy, Good, Writes}
use Rattle.source.proofs.Folds.{both, all_append, same-all}

-- ---- rows in front of others that are there
fine_before : (is : List ℕ) (w : Steps) → Fine (before is w) → Fine w
unfolding Fine before
fine_before is stuck h = h
fine_before is (rows js t) h = tt

runs-before : (is : List ℕ) (w : Steps) → Fine w → step_runs (before is w) ≡ is ++ step_runs w
unfolding Fine step_runs before
runs-before is stuck h = absurd h
runs-before is (rows js t) h = refl

before-stuck : (is : List ℕ) → before is stuck ≡ stuck
unfolding before
before-stuck is = refl

before-none : (is : List ℕ) (t : Spot) → before is (rows [] t) ≡ rows is t
unfolding before
before-none is t = rw append-nil

not_stuck : {w : Steps} → Fine w → w ≡ stuck → ⊥
unfolding Fine
not_stuck h e = rw e at h

runs-are : {w : Steps} {is : List ℕ} {t : Spot} → w ≡ rows is t → step_runs w ≡ is
unfolding step_runs
runs-are e = rw e

-- ---- where reading starts, and how a piece leads on
module _ (runs : ℕ) (counts : List ℕ) (s : Spot) (left : ℕ) (l : 0 < left) where
  pub starts-on : (coded : Bool) {k : ℕ} {t : Spot} → piece_in coded runs counts s left ≡ Some (run_piece k t) → StartsBy coded s.run runs left → StartsBy coded t.run runs (left - k)
  unfolding StartsBy
  starts-on true e h = (piece_inside true runs counts s left l e coded-room).1
  starts-on false {k} {t} e h =
      let a = piece-alone false runs counts s left l e refl in
      let r : t.run ≡ s.run + 1 = ap (λ (u : Spot). u.run) a.1 in
      omega (arith, a.0)

pub starts-few : (coded : Bool) (run runs left : ℕ) → runs ≤ MOST_ITEMS → StartsBy coded run runs left → run ≤ MOST_ITEMS
unfolding StartsBy
starts-few true run runs left h s = omega arith
starts-few false run runs left h s = omega arith

-- ---- what the loops keep: the rows done, and behind them those that are left, are the whole
pub record Progress (coded : Bool) (runs : ℕ) (counts : List ℕ) (n : ℕ) (from : Spot) (at : Spot) (left : ℕ) : Type 0 where
  pub done : List ℕ
  pub whole : steps_in coded runs counts n from ≡ before done (steps_in coded runs counts left at)
  pub sized : length done + left ≡ n
  pub starts : StartsBy coded at.run runs left

unfoldable pub progress_start : (coded : Bool) (runs : ℕ) (counts : List ℕ) (n : ℕ) (from : Spot) → StartsBy coded from.run runs n → Progress coded runs counts n from from n
progress_start coded runs counts n from h = record { done = []; whole = sym (before-nil _); sized = omega arith; starts = h }

module _ {coded : Bool} {runs : ℕ} {counts : List ℕ} {n : ℕ} {from at : Spot} {left : ℕ} (w : Progress coded runs counts n from at left) where
  pub progress-end : left ≤ 0 → steps_in coded runs counts n from ≡ rows w.done at
  progress-end h =
      let z : left ≡ 0 = omega arith in
      w.whole ∙ rw (z, steps-zero coded runs counts at) (before-none w.done at)

  pub progress-all : left ≤ 0 → step_runs (steps_in coded runs counts n from) ≡ w.done
  progress-all h = runs-are (progress-end h)

  module _ (l : 0 < left) {p : Option Piece} (e : p ≡ piece_in coded runs counts at left) where
    pub progress-stuck : p ≡ None → steps_in coded runs counts n from ≡ stuck
    progress-stuck b = w.whole ∙ rw (piece-stuck coded runs counts at left l (sym e ∙ b)) (before-stuck w.done)

    pub progress-never : Fine (steps_in coded runs counts n from) → p ≡ None → ⊥
    progress-never f b = not_stuck f (progress-stuck b)

    module _ {k : ℕ} {t : Spot} (b : p ≡ Some (run_piece k t)) where
      -- so many rows, each of this run, and then the rest
      pub whole-on : steps_in coded runs counts n from ≡ before (w.done ++ replicate k at.run) (steps_in coded runs counts (left - k) t)
      whole-on = w.whole ∙ rw (piece-rows coded runs counts at left l (sym e ∙ b)) (before-before w.done (replicate k at.run) _)

      pub progress-most : (k ≤ left) × (k < 2 ^ 32)
      progress-most = piece-most coded runs counts at left l (sym e ∙ b)

      -- the rows of the piece behind those done are rows of the whole
      pub progress-place : {to : ℕ} → to ≡ length w.done → to + k ≤ n
      progress-place q = omega (arith, q, w.sized, progress-most)

      pub progress-less : left - k + (runs - t.run) < left + (runs - at.run)
      progress-less = piece-less coded runs counts at left l (sym e ∙ b)

      unfoldable pub progress-on : Progress coded runs counts n from t (left - k)
      progress-on =
          let m = progress-most in
          record {
            done = w.done ++ replicate k at.run;
            whole = whole-on;
            sized = rw (length-append w.done (replicate k at.run), length-replicate) (omega (arith, w.sized));
            starts = starts-on runs counts at left l coded (sym e ∙ b) w.starts;
          }

      -- ---- where the rows are there and good
      module _ {good : ℕ → Bool} {room : ℕ} (r : Writes good (steps_in coded runs counts n from) n room) where
        abbrev rest : List ℕ
        rest = step_runs (steps_in coded runs counts (left - k) t)

        pub progress-runs : step_runs (steps_in coded runs counts n from) ≡ w.done ++ replicate k at.run ++ rest
        progress-runs =
            let g : Fine (steps_in coded runs counts (left - k) t) = fine_before (w.done ++ replicate k at.run) _ (subst Fine whole-on r.fine) in
            ap step_runs whole-on ∙ runs-before (w.done ++ replicate k at.run) _ g

        pub progress-good : 0 < k → good at.run ≡ true
        progress-good m =
            let a = both (all_of good (w.done ++ replicate k at.run)) (all_of good rest) (sym (all_append good _ rest) ∙ sym (ap (all_of good) progress-runs) ∙ r.right) in
            let c = both (all_of good w.done) (all_of good (replicate k at.run)) (sym (all_append good w.done _) ∙ a.0) in
            same-all good k at.run c.1 m

-- the next piece is there and good
pub progress-piece : {coded : Bool} {runs : ℕ} {counts : List ℕ} {n : ℕ} {from at : Spot} {left : ℕ} (w : Progress coded runs counts n from at left) → 0 < left
    → {good : ℕ → Bool} {room : ℕ} → Writes good (steps_in coded runs counts n from) n room → Good good at.run (piece_in coded runs counts at left)
unfolding Good
progress-piece {coded} {runs} {counts} {n} {from} {at} {left} w l {good} r = go (piece_in coded runs counts at left) refl
  where
    go : (p : Option Piece) → p ≡ piece_in coded runs counts at left → Good good at.run p
    go None e = absurd (progress-never w l e r.fine refl)
    go (Some x) e = progress-good w l e refl r

-- what a good one tells
module _ (good : ℕ → Bool) (i : ℕ) {q p : Option Piece} (g : Good good i q) (e : p ≡ q) where
  pub good-there : p ≡ None → ⊥
  unfolding Good
  good-there b = subst (Good good i) (sym e ∙ b) g

  pub good-shows : {k : ℕ} {t : Spot} → p ≡ Some (run_piece k t) → 0 < k → good i ≡ true
  unfolding Good
  good-shows b = subst (Good good i) (sym e ∙ b) g
