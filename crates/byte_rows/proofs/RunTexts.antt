-- The texts of a run's rows, which are those of its item: room for them, and the step of the loops that write them. Assumes nothing.
use Prim.Native.Nat.{ℕ, ◌+◌, ◌-◌, ◌*◌, ◌^◌, ◌≤◌, ◌<◌}
use native.Mathlib.Nat.{zero-mul}
use native.Mathlib.Omega.{arith}
use mathlib.Core.Bool.{Bool}
use mathlib.Core.List.{List}
use mathlib.Core.Path.{◌≡◌, refl, sym, ap, ◌∙◌}
use lib.ListN.{length, take, drop}
use lib.Seq.{sets}
use Rattle.std.specs.Prelude.{Some}
use Rattle.area.specs.Area.{repeats, climbs}
use Rattle.encode.specs.declared.Kind.{Kind}
use Rattle.rle.specs.declared.Spot.{Spot}
use Rattle.rle.specs.Pieces.{run_piece, step_runs}
use Rattle.source.specs.declared.Source.{Source}
use Rattle.source.specs.Rows.{shown_by, text_of, text_by, size_by, piece_of, steps_of, sum_of, Writes}
use Rattle.source.proofs.AtPlace.{sizes, part-size, text-shown}
use Rattle.source.proofs.Filled.{run-same}
use Rattle.byte_rows.proofs.TextsWritten as loops

-- ---- the step: the rows of the run have the text of its item
module _ (s : Source) (marks items counts : List ℕ) (n : ℕ) (from : Spot) (ends₀ bytes₀ : List ℕ) where
  abbrev pub Written : Spot → ℕ → ℕ → ℕ → List ℕ → List ℕ → Type 0
  Written place left to at ends bytes = loops.TextsWritten (text_by s marks items) (size_by s marks items) s.coded s.runs counts n from ends₀ bytes₀ place left to at ends bytes

  module _ {place : Spot} {left to at : ℕ} {ends bytes : List ℕ} (w : Written place left to at ends bytes) (l : 0 < left)
      {k : ℕ} {t : Spot} (b : piece_of s counts place left ≡ Some (run_piece k t)) {slot : ℕ} (shows : 0 < k → slot ≡ shown_by s.marks marks place.run)
      {kind : Kind} (is : s.kind ≡ kind) (o len : ℕ) (h : o + len ≤ length items) (q : take len (drop o items) ≡ text_of kind s.items items slot) where
    same_text : 0 < k → take len (drop o items) ≡ text_by s marks items place.run
    same_text m = text-shown s marks items place.run (shows m) (q ∙ ap (λ (j : Kind). text_of j s.items items slot) (sym is))

    same_size : 0 < k → len ≡ size_by s marks items place.run
    same_size m = part-size s marks items place.run o len h (same_text m)

    times : k * len ≡ k * size_by s marks items place.run
    times = run-same (λ (d : ℕ). k * d) k (λ z. rw z (zero-mul len ∙ sym (zero-mul _))) same_size

    pub run_room : {good : ℕ → Bool} → Writes good (steps_of s counts n from) n (length ends₀)
        → sum_of (size_by s marks items) (step_runs (steps_of s counts n from)) ≤ length bytes₀
        → sum_of (size_by s marks items) (step_runs (steps_of s counts n from)) < 2 ^ 32
        → (to + k ≤ length ends) × (at + k * len ≤ length bytes) × (at + k * len < 2 ^ 32)
    run_room r x y =
        let m = loops.texts-sum w l refl b r in
        let d = loops.texts-bytes w in
        let e = times in
        (loops.texts-room w l refl b r.rows, omega arith, omega arith)

    pub run_on : {at' : ℕ} {ends' bytes' : List ℕ} → at' ≡ at + k * len → ends' ≡ sets ends to (climbs k at len)
        → bytes' ≡ sets bytes at (repeats k (take len (drop o items))) → Written t (left - k) (to + k) at' ends' bytes'
    unfolding climbs repeats
    run_on x y z =
        loops.texts-on w l refl b (sizes s marks items)
        (x ∙ ap (λ (d : ℕ). at + d) times)
        (y ∙ ap (sets ends to) (run-same (climbs k at) k (λ e. rw e) same_size))
        (z ∙ ap (sets bytes at) (run-same (repeats k) k (λ e. rw e) same_text))
