-- One of two columns that are walked in step: the runs that were taken of it, of the last of which some rows are still to be compared. Assumes nothing.
use Rattle.std.specs.Prelude.{Some}
use Prim.Native.Nat.{ℕ, ◌+◌, ◌-◌, ◌≤◌, ◌<◌}
use native.Mathlib.Omega.{arith}
use mathlib.Core.Bool.{true}
use mathlib.Core.List.{List, [], ◌++◌, map, map-append, append-nil, append_assoc}
use mathlib.Core.Path.{◌≡◌, refl, sym, ap, ◌∙◌}
use lib.ListN.{length, replicate, length-append, length-replicate}
use Rattle.limits.specs.Limits.{MOST_ITEMS}
use Rattle.plain.specs.Rows.{Row}
use Rattle.plain.specs.Plain.{ends_good}
use Rattle.rle.specs.declared.Spot.{Spot}
use Rattle.rle.specs.Pieces.{step_runs, run_piece}
use Rattle.rle.proofs.Folds.{map-replicate}
use Rattle.dict.specs.Dictionary.{entry_row}
use Rattle.source.specs.declared.Source.{Source}
use Rattle.source.specs.declared.ShownRun.{ShownRun}
use Rattle.source.specs.Rows.{shown_by, row_by, good_by, piece_of, steps_of, Good}
use Rattle.source.proofs.Progress.{Progress, progress_start, progress-on, progress-most, progress-less, progress-all, progress-piece, starts-few}
use Rattle.in_step.specs.Walking.{first, Walks}
use Rattle.in_step.proofs.Lists.{replicate-add}

abbrev pub shown : ℕ → ℕ → Spot → ShownRun
shown slot rows next = record { slot = slot; rows = rows; next = next }

module _ (s : Source) (counts marks items : List ℕ) (n : ℕ) where
  -- the rows compared lie in the runs `front`; `left` rows are still to be compared, the first of them in the run that was taken last
  pub record Side (front : List ℕ) (x : ShownRun) (left : ℕ) : Type 0 where
    pub untaken : ℕ
    pub progress : Progress s.coded s.runs counts n first x.next untaken
    pub sum : untaken + x.rows ≡ left
    pub run : ℕ
    pub done : progress.done ≡ front ++ replicate x.rows run
    pub row : 0 < x.rows → entry_row s.kind s.items items x.slot ≡ row_by s marks items run
    pub slot : x.slot ≤ s.items
    pub ends : 0 < x.slot → ends_good s.kind s.items items (x.slot - 1) ≡ true

  pub side-start : Walks s counts marks items n → {x : ShownRun} → x ≡ shown 0 0 first → Side [] x n
  unfolding progress_start
  side-start w e = rw e (record {
    untaken = n;
    progress = progress_start s.coded s.runs counts n first w.starts;
    sum = omega arith;
    run = 0;
    done = refl;
    row = λ h. absurd (omega arith);
    slot = omega arith;
    ends = λ h. absurd (omega arith);
  })

module _ {s : Source} {counts marks items : List ℕ} {n : ℕ} {front : List ℕ} {x : ShownRun} {left : ℕ} (f : Side s counts marks items n front x left) where
  pub side-long : length front + left ≡ n
  side-long =
      let p = f.progress in
      omega (arith, ap length f.done, length-append front (replicate x.rows f.run), length-replicate x.rows f.run, p.sized, f.sum)

  pub side-few : x.rows ≤ left
  side-few = omega (arith, f.sum)

  -- ---- all rows compared
  pub side-end : left ≤ 0 → step_runs (steps_of s counts n first) ≡ front
  side-end h =
      let r : x.rows ≡ 0 = omega (arith, f.sum) in
      progress-all f.progress (omega (arith, f.sum)) ∙ f.done ∙ rw r (append-nil front)

  -- ---- the next run
  module _ (used : x.rows ≤ 0) (more : 0 < left) where
    all-untaken : left ≡ f.untaken
    all-untaken = omega (arith, f.sum)

    some : 0 < f.untaken
    some = omega (arith, all-untaken)

    pub side-run : s.runs ≤ MOST_ITEMS → x.next.run ≤ MOST_ITEMS
    side-run h = starts-few s.coded x.next.run s.runs f.untaken h f.progress.starts

    pub side-good : Walks s counts marks items n → Good (good_by s marks items) x.next.run (piece_of s counts x.next left)
    side-good w = rw all-untaken (progress-piece f.progress some w.writes)

    module _ (y : ShownRun) (piece : piece_of s counts x.next left ≡ Some (run_piece y.rows y.next)) where
      here : piece_of s counts x.next f.untaken ≡ Some (run_piece y.rows y.next)
      here = rw all-untaken at piece

      pub side-less : left - y.rows + (s.runs - y.next.run) < left + (s.runs - x.next.run)
      side-less = omega (arith, all-untaken, progress-less f.progress some refl here)

      pub side-most : y.rows ≤ left
      side-most = omega (arith, all-untaken, (progress-most f.progress some refl here).0)

      pub side-next :
          (0 < y.rows → y.slot ≡ shown_by s.marks marks x.next.run) → y.slot ≤ s.items
          → (0 < y.slot → ends_good s.kind s.items items (y.slot - 1) ≡ true) → Side s counts marks items n front y left
      unfolding progress-on row_by
      side-next shows few ends =
          let r : x.rows ≡ 0 = omega arith in
          let d : f.progress.done ≡ front = f.done ∙ rw r (append-nil front) in
          record {
            untaken = f.untaken - y.rows;
            progress = progress-on f.progress some refl here;
            sum = omega (arith, all-untaken, side-most);
            run = x.next.run;
            done = ap (λ (l : List ℕ). l ++ replicate y.rows x.next.run) d;
            row = λ h. ap (entry_row s.kind s.items items) (shows h);
            slot = few;
            ends = ends;
          }

  -- ---- some rows of the run compared
  module _ (m : ℕ) (most : m ≤ x.rows) where
    pub side-take : Side s counts marks items n (front ++ replicate m f.run) (shown x.slot (x.rows - m) x.next) (left - m)
    side-take =
        let e : x.rows ≡ m + (x.rows - m) = omega arith in
        record {
          untaken = f.untaken;
          progress = f.progress;
          sum = omega (arith, f.sum);
          run = f.run;
          done =
              f.done
              ∙ ap (λ (l : List ℕ). front ++ l) (ap (λ (k : ℕ). replicate k f.run) e ∙ replicate-add m (x.rows - m) f.run)
              ∙ sym (append_assoc front (replicate m f.run) (replicate (x.rows - m) f.run));
          row = λ h. f.row (omega arith);
          slot = f.slot;
          ends = f.ends;
        }

    pub side-rows : 0 < m → map (row_by s marks items) (front ++ replicate m f.run)
        ≡ map (row_by s marks items) front ++ replicate m (entry_row s.kind s.items items x.slot)
    side-rows h =
        map-append (row_by s marks items) front (replicate m f.run)
        ∙ ap (λ (l : List Row). map (row_by s marks items) front ++ l)
        (map-replicate (row_by s marks items) m f.run ∙ ap (replicate m) (sym (f.row (omega arith))))

-- ---- the measure of the walk: the second side took a run, and rows of both were compared
pub second-less : (p q left rows runs : ℕ) → rows ≤ 0 → q < left + runs → p + q < p + (left - rows + runs)
second-less p q left rows runs h l = omega arith

still-untaken : (left m rows : ℕ) → m ≤ rows → rows ≤ left → left - m - (rows - m) ≡ left - rows
still-untaken left m rows h f = omega arith

pub both-less :
    (left m a b u v : ℕ) → 0 < m → m ≤ a → m ≤ b → a ≤ left → b ≤ left
    → left - m + (left - m - (a - m) + u) + (left - m - (b - m) + v) < left + (left - a + u) + (left - b + v)
both-less left m a b u v z h k f g = rw (still-untaken left m a h f, still-untaken left m b k g) (fewer left m (left - a + u) (left - b + v) z (omega arith))
  where
    fewer : (l m p q : ℕ) → 0 < m → m ≤ l → l - m + p + q < l + p + q
    fewer l m p q z h = omega arith
