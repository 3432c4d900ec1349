-- The loops that write bytes one after another, and their ends: what each row done has given stands in the areas, and there is room for the rows
-- of the next piece. Assumes nothing.
use Prim.Native.Nat.{ℕ, ◌+◌, ◌-◌, ◌*◌, ◌≤◌, ◌<◌}
use native.Mathlib.Omega.{arith}
use mathlib.Core.Bool.{Bool}
use mathlib.Core.List.{List, ◌++◌, map}
use mathlib.Core.Path.{◌≡◌, refl, ap, ◌∙◌}
use lib.ListN.{length, replicate, length-map, length-append, length-replicate}
use lib.Seq.{sets, length-sets}
use Rattle.std.specs.Prelude.{Option, Some}
use Rattle.area.specs.Area.{repeats, climbs}
use Rattle.area.proofs.Laws.{sets-append}
use Rattle.plain.specs.Plain.{joined, ends_from}
use Rattle.rle.specs.declared.Spot.{Spot}
use Rattle.rle.specs.declared.Piece.{Piece}
use Rattle.rle.specs.Pieces.{run_piece, piece_in, steps_in, step_runs}
use Rattle.source.specs.Rows.{StartsBy, sum_of, Writes}
use Rattle.source.proofs.Folds.{sum-append, sum_same, joined-append, joined_same, length-joined, ends-append, ends_same, length-ends}
use Rattle.source.proofs.Progress.{Progress, progress_start, progress-all, progress-on, progress-place, progress-runs}

-- ---- what the loops keep: of each row its text, and of that its size
pub record TextsWritten (text : ℕ → List ℕ) (size : ℕ → ℕ) (coded : Bool) (runs : ℕ) (counts : List ℕ) (n : ℕ) (from : Spot) (ends₀ bytes₀ : List ℕ)
    (place : Spot) (left to at : ℕ) (ends bytes : List ℕ) : Type 0 where
  pub progress : Progress coded runs counts n from place left
  pub same_ends : ends ≡ sets ends₀ 0 (ends_from 0 (map text progress.done))
  pub same_bytes : bytes ≡ sets bytes₀ 0 (joined text progress.done)
  pub here : to ≡ length progress.done
  pub weight : at ≡ sum_of size progress.done

pub texts-start : (text : ℕ → List ℕ) (size : ℕ → ℕ) (coded : Bool) (runs : ℕ) (counts : List ℕ) (n : ℕ) (from : Spot) (ends bytes : List ℕ)
    → StartsBy coded from.run runs n → TextsWritten text size coded runs counts n from ends bytes from n 0 0 ends bytes
unfolding progress_start ends_from joined sum_of
texts-start text size coded runs counts n from ends bytes h =
    record { progress = progress_start coded runs counts n from h; same_ends = refl; same_bytes = refl; here = refl; weight = refl }

module _ {text : ℕ → List ℕ} {size : ℕ → ℕ} {coded : Bool} {runs : ℕ} {counts : List ℕ} {n : ℕ} {from : Spot} {ends₀ bytes₀ : List ℕ}
    {place : Spot} {left to at : ℕ} {ends bytes : List ℕ} (w : TextsWritten text size coded runs counts n from ends₀ bytes₀ place left to at ends bytes) where
  pub texts-ends : length ends ≡ length ends₀
  texts-ends = ap length w.same_ends ∙ length-sets ends₀ 0 (ends_from 0 (map text w.progress.done))

  pub texts-bytes : length bytes ≡ length bytes₀
  texts-bytes = ap length w.same_bytes ∙ length-sets bytes₀ 0 (joined text w.progress.done)

  pub texts-end : left ≤ 0
      → (ends ≡ sets ends₀ 0 (ends_from 0 (map text (step_runs (steps_in coded runs counts n from)))))
      × (bytes ≡ sets bytes₀ 0 (joined text (step_runs (steps_in coded runs counts n from))))
  texts-end h = let d = progress-all w.progress h in (rw d w.same_ends, rw d w.same_bytes)

  module _ (l : 0 < left) {p : Option Piece} (e : p ≡ piece_in coded runs counts place left) {k : ℕ} {t : Spot} (b : p ≡ Some (run_piece k t)) where
    pub texts-room : n ≤ length ends₀ → to + k ≤ length ends
    texts-room h = omega (arith, h, texts-ends, progress-place w.progress l e b w.here)

    -- the rows of the piece weigh no more than all rows
    pub texts-sum : {good : ℕ → Bool} {room : ℕ} → Writes good (steps_in coded runs counts n from) n room
        → at + k * size place.run ≤ sum_of size (step_runs (steps_in coded runs counts n from))
    texts-sum r =
        let is : List ℕ = w.progress.done in
        let js : List ℕ = replicate k place.run in
        let ks : List ℕ = step_runs (steps_in coded runs counts (left - k) t) in
        let a : sum_of size (step_runs (steps_in coded runs counts n from)) ≡ sum_of size is + sum_of size js + sum_of size ks =
        ap (sum_of size) (progress-runs w.progress l e b r) ∙ rw (sum-append size (is ++ js) ks, sum-append size is js) in
        omega (arith, a, sum_same size k place.run, w.weight)

    module _ (sized : (i : ℕ) → size i ≡ length (text i)) where
      pub texts-on : {at' : ℕ} {ends' bytes' : List ℕ} → at' ≡ at + k * size place.run
          → ends' ≡ sets ends to (climbs k at (size place.run)) → bytes' ≡ sets bytes at (repeats k (text place.run))
          → TextsWritten text size coded runs counts n from ends₀ bytes₀ t (left - k) (to + k) at' ends' bytes'
      unfolding progress-on
      texts-on {at'} {ends'} {bytes'} x y z =
          let is : List ℕ = w.progress.done in
          let js : List ℕ = replicate k place.run in
          let ended : List ℕ = ends_from 0 (map text is) in
          let climbed : List ℕ = climbs k at (size place.run) in
          let i : 0 + length (ends_from 0 (map text is)) ≡ to = omega (arith, length-ends 0 (map text is), length-map is text, w.here) in
          let j : 0 + length (joined text is) ≡ at = omega (arith, length-joined text size sized is, w.weight) in
          let a : 0 + sum_of size is ≡ at = omega (arith, w.weight) in
          record {
            progress = progress-on w.progress l e b;
            same_ends = y ∙ rw w.same_ends (rw (ends-append text size sized 0 is js, a, ends_same text size sized at k place.run, sets-append ended climbed ends₀ 0, i));
            same_bytes = z ∙ rw w.same_bytes (rw (joined-append text is js, joined_same text k place.run, sets-append (joined text is) (repeats k (text place.run)) bytes₀ 0, j));
            here = rw (length-append is js, length-replicate k place.run) (omega (arith, w.here));
            weight = rw (sum-append size is js, sum_same size k place.run) (omega (arith, x, w.weight));
          }
