-- The loops that write one element a row, values or flags: what each row done has given stands in the area, and there is room for the rows of the
-- next piece. Assumes nothing.
use Prim.Native.Nat.{ℕ, zero, suc, ◌+◌, ◌-◌, ◌≤◌, ◌<◌}
use native.Mathlib.Omega.{arith}
use mathlib.Core.Bool.{Bool}
use mathlib.Core.List.{List, map, map-append}
use mathlib.Core.Path.{◌≡◌, refl, ap, ◌∙◌}
use lib.ListN.{length, replicate, length-map, length-append, length-replicate}
use lib.Seq.{sets, length-sets}
use Rattle.std.specs.Prelude.{Option, Some}
use Rattle.area.proofs.Laws.{sets-append}
use Rattle.rle.specs.declared.Spot.{Spot}
use Rattle.rle.specs.declared.Piece.{Piece}
use Rattle.rle.specs.Pieces.{run_piece, piece_in, steps_in, step_runs}
use Rattle.rle.proofs.Folds.{map-replicate}
use Rattle.source.specs.Rows.{StartsBy}
use Rattle.source.proofs.Progress.{Progress, progress_start, progress-all, progress-on, progress-place}

-- a run that was used up has no row, whatever they would be
pub run-same : {A B : Type 0} (f : A → B) (k : ℕ) {x y : A} → (k ≡ 0 → f x ≡ f y) → (0 < k → x ≡ y) → f x ≡ f y
run-same f zero z e = z refl
run-same f (suc k) z e = ap f (e (omega arith))

-- ---- what the loops keep
pub record Filled (A : Type 0) (g : ℕ → A) (coded : Bool) (runs : ℕ) (counts : List ℕ) (n : ℕ) (from : Spot) (area₀ : List A) (at : Spot) (left to : ℕ) (area : List A) : Type 0 where
  pub progress : Progress coded runs counts n from at left
  pub same : area ≡ sets area₀ 0 (map g progress.done)
  pub place : to ≡ length progress.done

module _ {A : Type 0} where
  pub filled-start : (g : ℕ → A) (coded : Bool) (runs : ℕ) (counts : List ℕ) (n : ℕ) (from : Spot) (area : List A)
      → StartsBy coded from.run runs n → Filled A g coded runs counts n from area from n 0 area
  unfolding progress_start
  filled-start g coded runs counts n from area h = record { progress = progress_start coded runs counts n from h; same = refl; place = refl }

  module _ {g : ℕ → A} {coded : Bool} {runs : ℕ} {counts : List ℕ} {n : ℕ} {from : Spot} {area₀ : List A} {at : Spot} {left to : ℕ} {area : List A}
      (w : Filled A g coded runs counts n from area₀ at left to area) where
    pub filled-long : length area ≡ length area₀
    filled-long = ap length w.same ∙ length-sets area₀ 0 (map g w.progress.done)

    pub filled-end : left ≤ 0 → area ≡ sets area₀ 0 (map g (step_runs (steps_in coded runs counts n from)))
    filled-end h = rw (progress-all w.progress h) w.same

    module _ (l : 0 < left) {p : Option Piece} (e : p ≡ piece_in coded runs counts at left) {k : ℕ} {t : Spot} (b : p ≡ Some (run_piece k t)) where
      pub filled-room : n ≤ length area₀ → to + k ≤ length area
      filled-room h = omega (arith, h, filled-long, progress-place w.progress l e b w.place)

      -- THE STEP: where the rows of the run are filled with what each of them is to give
      pub filled_on : {x : A} → (0 < k → x ≡ g at.run) → {area' : List A} → area' ≡ sets area to (replicate k x) → Filled A g coded runs counts n from area₀ t (left - k) (to + k) area'
      unfolding progress-on
      filled_on {x} f {area'} q =
          let is : List ℕ = w.progress.done in
          let js : List ℕ = replicate k at.run in
          let z : 0 + length (map g is) ≡ to = omega (arith, length-map is g, w.place) in
          record {
            progress = progress-on w.progress l e b;
            same = q ∙ rw (run-same (replicate k) k (λ z. rw z) f, w.same) (rw (map-append g is js, map-replicate g k at.run, sets-append (map g is) (replicate k (g at.run)) area₀ 0, z));
            place = rw (length-append is js, length-replicate k at.run) (omega (arith, w.place));
          }
