-- What lies ahead of a walk over the runs of keys: its next run, and some rows taken of a run. Assumes nothing.
use Rattle.std.specs.Prelude.{Option, Some, None}
use Prim.Native.Nat.{ℕ, zero, suc, ◌+◌, ◌-◌, ◌*◌, ◌≤◌, ◌<◌}
use native.Mathlib.Omega.{arith}
use mathlib.Core.Bool.{true}
use mathlib.Core.List.{List, [], ◌++◌, append_assoc}
use mathlib.Core.Path.{◌≡◌, refl, sym, ap, subst, ◌∙◌}
use lib.ListN.{length, replicate, replicate-append-replicate}
use borrow.Author.Tests.{lt-ltb}
use Rattle.limits.specs.Limits.{MOST_ITEMS}
use Rattle.plain.specs.Plain.{least_bytes, ends_good}
use Rattle.rle.specs.declared.Spot.{Spot}
use Rattle.rle.specs.declared.Piece.{Piece}
use Rattle.rle.specs.Stepping.{Steps, stuck, rows, before, steps_from}
use Rattle.rle.specs.Pieces.{piece_in, steps_in, step_runs, Fine, run_piece}
use Rattle.rle.proofs.Steps.{coded-room}
use Rattle.rle.proofs.Pieces.{piece-stuck, piece-rows, piece-most, piece-less, piece_inside}
use Rattle.dict.specs.Dictionary.{entry_good}
use Rattle.source.specs.declared.Source.{Source}
use Rattle.source.specs.declared.ShownRun.{ShownRun}
use Rattle.source.specs.Rows.{shown_by, seen_by, most_by, good_by, MarkBytes, Ready, piece_of, Good}
use Rattle.repaired.specs.Repaired.{keys_by, none_yet, runs_walked, runs_ahead, Keyed, Ahead}

-- ---- rows in front of others that are there
fine-behind : (is : List ℕ) (w : Steps) → Fine (before is w) → Fine w
unfolding Fine before
fine-behind is stuck h = h
fine-behind is (rows js t) h = tt

runs-behind : (is : List ℕ) (w : Steps) → Fine w → step_runs (before is w) ≡ is ++ step_runs w
unfolding Fine step_runs before
runs-behind is stuck h = absurd h
runs-behind is (rows js t) h = refl

not_stuck : {w : Steps} → Fine w → w ≡ stuck → ⊥
unfolding Fine
not_stuck h e = rw e at h

-- what is the same, wherever there is one, as often
pub alike : {A : Type 0} (n : ℕ) {a b : A} → (0 < n → a ≡ b) → replicate n a ≡ replicate n b
alike zero h = refl
alike (suc n) h = ap (replicate (suc n)) (h (omega arith))

abbrev pub shown : ℕ → ℕ → Spot → ShownRun
shown slot n next = record { slot = slot; rows = n; next = next }

-- the rows ahead before the first are all of them
pub all-ahead : (runs : ℕ) (counts : List ℕ) (n : ℕ) → runs_ahead runs counts none_yet n ≡ runs_walked runs counts n
unfolding runs_ahead
all-ahead runs counts n = let e : n - 0 ≡ n = omega arith in rw e

-- what `shown_run` says of the run that it gives
abbrev pub Told : Source → List ℕ → List ℕ → Spot → ℕ → ShownRun → Type 0
Told s counts marks at left y = (piece_of s counts at left ≡ Some (run_piece y.rows y.next)) × (0 < y.rows → y.slot ≡ shown_by s.marks marks at.run)

keys-ready : {runs : ℕ} {keys : List ℕ} → Keyed runs keys → (marks : List ℕ) → Ready (keys_by runs) marks keys
unfolding least_bytes MarkBytes
keys-ready w marks = record { few = w.few; short = w.few; block = w.short; whole = omega (arith, w.whole); marked = tt }

module _ {runs : ℕ} {counts : List ℕ} {x : ShownRun} {left : ℕ} (f : Ahead runs counts x left) where
  -- the key of a run of which rows are ahead is there
  pub key-there : {keys : List ℕ} → Keyed runs keys → 0 < x.rows → (x.slot - 1 < MOST_ITEMS) × (4 * (x.slot - 1) + 4 ≤ length keys)
  key-there w h = let t = f.there h in (omega (arith, w.few), omega (arith, w.whole))

  pub ahead_none : left ≤ 0 → runs_ahead runs counts x left ≡ []
  unfolding runs_ahead steps_from step_runs
  ahead_none h =
      let a : x.rows ≡ 0 = omega (arith, f.some) in
      let b : left ≡ 0 = omega arith in
      rw (a, b)

  -- ---- the next run, where no row is left of the last
  module _ (used : x.rows ≤ 0) (more : 0 < left) where
    all-behind : left - x.rows ≡ left
    all-behind = omega arith

    steps-there : Fine (steps_from runs counts left x.next)
    steps-there = rw all-behind at f.fine

    runs-there : runs_ahead runs counts x left ≡ step_runs (steps_from runs counts left x.next)
    unfolding runs_ahead
    runs-there = let z : x.rows ≡ 0 = omega arith in rw (all-behind, z)

    key-good : (marks keys : List ℕ) → Good (good_by (keys_by runs) marks keys) x.next.run (piece_of (keys_by runs) counts x.next left)
    unfolding Good good_by most_by seen_by entry_good ends_good steps_in
    key-good marks keys = go (piece_in true runs counts x.next left) refl
      where
        go : (p : Option Piece) → piece_in true runs counts x.next left ≡ p → Good (good_by (keys_by runs) marks keys) x.next.run p
        go None e = absurd (not_stuck steps-there (piece-stuck true runs counts x.next left more e))
        go (Some p) e = λ h. simp (lt-ltb x.next.run runs (piece_inside true runs counts x.next left more e coded-room).0)

    -- what `shown_run` asks
    pub ahead-asks : {s : Source} → s ≡ keys_by runs → {keys : List ℕ} → Keyed runs keys → (marks : List ℕ)
        → Ready s marks keys × (x.next.run ≤ MOST_ITEMS) × Good (good_by s marks keys) x.next.run (piece_of s counts x.next left)
    ahead-asks e {keys} w marks = rw e (keys-ready w marks, omega (arith, w.few, f.inside), key-good marks keys)

    -- and what it gives
    module _ {s : Source} (by : s ≡ keys_by runs) (marks : List ℕ) {y : ShownRun} (told : Told s counts marks x.next left y) where
      piece : piece_in true runs counts x.next left ≡ Some (run_piece y.rows y.next)
      piece = rw by at told.0

      shows : 0 < y.rows → y.slot ≡ suc x.next.run
      unfolding shown_by
      shows h = rw by at (told.1 h)

      pub ahead-less : left - y.rows + (runs - y.next.run) < left + (runs - x.next.run)
      ahead-less = piece-less true runs counts x.next left more piece

      steps_on : steps_from runs counts left x.next ≡ before (replicate y.rows x.next.run) (steps_from runs counts (left - y.rows) y.next)
      unfolding steps_in
      steps_on = piece-rows true runs counts x.next left more piece

      fine-on : Fine (steps_from runs counts (left - y.rows) y.next)
      fine-on = fine-behind (replicate y.rows x.next.run) _ (subst Fine steps_on steps-there)

      pub ahead-next : Ahead runs counts y left
      ahead-next =
          let i = piece_inside true runs counts x.next left more piece coded-room in
          record {
            some = (piece-most true runs counts x.next left more piece).0;
            there = λ h. let e = shows h in omega (arith, i.0);
            inside = i.1;
            fine = fine-on;
          }

      pub ahead-same : runs_ahead runs counts x left ≡ runs_ahead runs counts y left
      unfolding runs_ahead
      ahead-same =
          let rest = steps_from runs counts (left - y.rows) y.next in
          runs-there
          ∙ ap step_runs steps_on
          ∙ runs-behind (replicate y.rows x.next.run) rest fine-on
          ∙ ap (λ (l : List ℕ). l ++ step_runs rest) (alike y.rows (λ h. let e = shows h in omega arith))

  -- ---- some rows taken of the last run
  module _ (m : ℕ) (most : m ≤ x.rows) where
    still-behind : left - m - (x.rows - m) ≡ left - x.rows
    still-behind = omega (arith, f.some)

    pub ahead-take : Ahead runs counts (shown x.slot (x.rows - m) x.next) (left - m)
    ahead-take = record {
      some = omega (arith, f.some);
      there = λ h. f.there (omega arith);
      inside = f.inside;
      fine = rw still-behind f.fine;
    }

    pub ahead-front : runs_ahead runs counts x left ≡ replicate m (x.slot - 1) ++ runs_ahead runs counts (shown x.slot (x.rows - m) x.next) (left - m)
    unfolding runs_ahead
    ahead-front =
        let e : m + (x.rows - m) ≡ x.rows = omega arith in
        let rest = step_runs (steps_from runs counts (left - x.rows) x.next) in
        rw still-behind
        (ap (λ (l : List ℕ). l ++ rest)
        (sym (replicate-append-replicate m (x.rows - m) (x.slot - 1) ∙ ap (λ (k : ℕ). replicate k (x.slot - 1)) e))
        ∙ append_assoc (replicate m (x.slot - 1)) (replicate (x.rows - m) (x.slot - 1)) rest)
