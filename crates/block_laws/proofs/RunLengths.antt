-- The run-length block of rows over any inner block: its parts, and that no rule refuses it if none of the inner rules refuses the inner block.
-- Assumes nothing.
use Rattle.std.specs.Prelude.{Ok, Some}
use Prim.Native.Nat.{ℕ, suc, ◌+◌, ◌-◌, ◌^◌, ◌≤◌, ◌<◌}
use native.Mathlib.Nat.{zero-add}
use native.Mathlib.Omega.{arith}
use mathlib.Core.List.{List, [], ◌∷◌, ◌++◌, map}
use mathlib.Core.Path.{◌≡◌, refl, sym, ap, ◌∙◌}
use lib.ListN.{length, get_or, length-append, length-map}
use lib.Seq.{take_at, drop_at, drop-drop}
use Rattle.encode.specs.Bytes.{little, low_first}
use Rattle.encode.proofs.RoundTrip.{number-bytes}
use Rattle.limits.specs.Limits.{MOST_ITEMS}
use Rattle.plain.specs.Rows.{Row, null}
use Rattle.rle.specs.RunLength.{Run, runs_of, counts_of, run_length_of, runs_in, counts_length, counts_part, inner_part, walked, run_length_number, run_numbers}
use Rattle.rle.specs.Pieces.{head_found, number_by, run_head}
use Rattle.rle.proofs.Opening.{head-number, sum-right}
use Rattle.format.specs.Sizes.{run_rows}
use Rattle.block_laws.proofs.Runs.{spread, spread-runs, counted-runs, walk-runs, over_runs}

-- ---- a head, so many bytes of counts, and what stands behind them
module _ (runs : ℕ) (counts inner : List ℕ) where
  abbrev headed : List ℕ
  headed = little 4 runs ++ little 4 (length counts) ++ counts ++ inner

  length-headed : length headed ≡ 8 + length counts + length inner
  length-headed = omega (arith, length-append counts inner)

  runs-headed : runs < 2 ^ 32 → runs_in headed ≡ runs
  unfolding runs_in
  runs-headed h = number-bytes low_first 4 runs ∙ omega arith

  counts-headed : length counts < 2 ^ 32 → counts_length headed ≡ length counts
  unfolding counts_length
  counts-headed h = number-bytes low_first 4 (length counts) ∙ omega arith

  counts-part : counts_part (length counts) headed ≡ counts
  unfolding counts_part
  counts-part = take_at counts inner (length counts) refl

  inner-part : inner_part (length counts) headed ≡ inner
  unfolding inner_part
  inner-part = rw (← drop-drop (length counts) 8 headed) (drop_at counts inner (length counts) refl)

-- ---- there is a run where there is a row
some_runs : (x : Row) (xs : List Row) → 0 < length (runs_of (x ∷ xs))
unfolding spread
some_runs x xs = go (runs_of (x ∷ xs)) (spread-runs (x ∷ xs))
  where
    go : (rs : List Run) → spread rs ≡ x ∷ xs → 0 < length rs
    go [] e = let z : length (spread []) ≡ suc (length xs) = ap length e in absurd (omega arith)
    go (r ∷ rs) e = omega arith

-- ---- the block of some rows, one at least
module _ (build : List Row → List ℕ) (x : Row) (xs : List Row) (few : length (runs_of (x ∷ xs)) ≤ MOST_ITEMS)
    (small : length (run_length_of build (x ∷ xs)) < 2 ^ 32) where
  abbrev rows : List Row
  rows = x ∷ xs

  abbrev counts : List ℕ
  counts = counts_of (runs_of rows)

  abbrev block : List ℕ
  block = run_length_of build rows

  length-block : length block ≡ 8 + length counts + length (build (run_rows rows))
  unfolding run_length_of run_rows
  length-block = length-headed (length (runs_of rows)) counts (build (run_rows rows))

  runs-of-block : runs_in block ≡ length (runs_of rows)
  unfolding run_length_of run_rows
  runs-of-block = runs-headed (length (runs_of rows)) counts (build (run_rows rows)) (omega arith)

  counts-of-block : counts_length block ≡ length counts
  unfolding run_length_of run_rows
  counts-of-block = counts-headed (length (runs_of rows)) counts (build (run_rows rows)) (omega (arith, length-block))

  counts-part-of-block : counts_part (length counts) block ≡ counts
  unfolding run_length_of run_rows
  counts-part-of-block = counts-part (length (runs_of rows)) counts (build (run_rows rows))

  inner-part-of-block : inner_part (length counts) block ≡ build (run_rows rows)
  unfolding run_length_of run_rows
  inner-part-of-block = inner-part (length (runs_of rows)) counts (build (run_rows rows))

  sum-of-block : walked (length (runs_of rows)) counts ≡ Ok (length rows)
  sum-of-block = walk-runs (runs_of rows) (counted-runs rows) ∙ ap (λ (l : List Row). Ok (length l)) (spread-runs rows)

  head-of-block : Ok (Some (run_head (length (runs_of rows)) (length counts))) ≡ head_found (length rows) block
  unfolding runs_in counts_length counts_part
  head-of-block =
      let m : 8 + length counts - 8 ≡ length counts = omega arith in
      sum-right (length rows) block (λ z. omega (arith, length-block)) (omega (arith, length-block))
      (sym runs-of-block) few (λ z. omega (arith, some_runs x xs))
      (sym counts-of-block) (omega (arith, length-block))
      (rw m (ap (walked (length (runs_of rows))) (sym counts-part-of-block)))
      sum-of-block refl

  opens : (rule : ℕ → List ℕ → ℕ) → rule (length (run_rows rows)) (build (run_rows rows)) ≡ 0 → run_length_number rule (length rows) block ≡ 0
  unfolding number_by run_rows
  opens rule h =
      head-number rule (length rows) block
      ∙ ap (number_by rule block) (sym head-of-block)
      ∙ rw (inner-part-of-block, ← length-map (runs_of rows) (λ r. r.row)) h

  rows-of-block :
      {B : Type 0} (f : ℕ → List ℕ → ℕ → B) (g : Row → B)
      → ((i : ℕ) → i < length (run_rows rows) → f (length (run_rows rows)) (build (run_rows rows)) i ≡ g (get_or (run_rows rows) i null))
      → map (f (runs_in block) (inner_part (counts_length block) block)) (run_numbers (runs_in block) 0 (counts_part (counts_length block) block)) ≡ map g rows
  unfolding run_rows
  rows-of-block f g h =
      let m : length (run_rows rows) ≡ length (runs_of rows) = length-map (runs_of rows) (λ r. r.row) in
      rw (counts-of-block, runs-of-block, counts-part-of-block, inner-part-of-block)
      (over_runs (f (length (runs_of rows)) (build (run_rows rows))) g (runs_of rows) 0 (counted-runs rows)
      (λ j l. rw zero-add (rw m at (h j (omega arith)))) ∙ ap (map g) (spread-runs rows))

-- ---- and of any rows: zero rows give zero bytes
module _ (build : List Row → List ℕ) where
  -- the inner block is as small as the block
  pub inner-small :
      (rows : List Row) → length (build []) < 2 ^ 32 → length (runs_of rows) ≤ MOST_ITEMS → length (run_length_of build rows) < 2 ^ 32
      → length (build (run_rows rows)) < 2 ^ 32
  inner-small [] h few small = unfold run_rows runs_of in h
  inner-small (x ∷ xs) h few small = omega (arith, length-block build x xs few small)

  pub run-length-opens :
      (rule : ℕ → List ℕ → ℕ) (rows : List Row) → length (runs_of rows) ≤ MOST_ITEMS → length (run_length_of build rows) < 2 ^ 32
      → rule (length (run_rows rows)) (build (run_rows rows)) ≡ 0 → run_length_number rule (length rows) (run_length_of build rows) ≡ 0
  run-length-opens rule [] few small h = unfold run_length_number run_length_of in refl
  run-length-opens rule (x ∷ xs) few small h = opens build x xs few small rule h

  -- a function of each row's run gives what another gives of the row, if they agree on each run and its row
  pub run-length-rows :
      {B : Type 0} (f : ℕ → List ℕ → ℕ → B) (g : Row → B) (rows : List Row)
      → length (runs_of rows) ≤ MOST_ITEMS → length (run_length_of build rows) < 2 ^ 32
      → ((i : ℕ) → i < length (run_rows rows) → f (length (run_rows rows)) (build (run_rows rows)) i ≡ g (get_or (run_rows rows) i null))
      → map (f (runs_in (run_length_of build rows)) (inner_part (counts_length (run_length_of build rows)) (run_length_of build rows)))
      (run_numbers (runs_in (run_length_of build rows)) 0 (counts_part (counts_length (run_length_of build rows)) (run_length_of build rows)))
      ≡ map g rows
  run-length-rows f g [] few small h = unfold run_length_of runs_in run_numbers in refl
  run-length-rows f g (x ∷ xs) few small h = rows-of-block build x xs few small f g h

  -- what holds of each item of the inner block
  pub run-length-each :
      (P : List ℕ → ℕ → Type 0) (rows : List Row) → length (runs_of rows) ≤ MOST_ITEMS → length (run_length_of build rows) < 2 ^ 32
      → ((i : ℕ) → i < length (run_rows rows) → P (build (run_rows rows)) i)
      → (i : ℕ) → i < runs_in (run_length_of build rows) → P (inner_part (counts_length (run_length_of build rows)) (run_length_of build rows)) i
  unfolding run_rows
  run-length-each P [] few small h i l = absurd (no_items i l)
    where
      no_items : (i : ℕ) → i < runs_in (run_length_of build []) → ⊥
      no_items i l = unfold run_length_of runs_in in omega arith
  run-length-each P (x ∷ xs) few small h i l =
      let m : length (run_rows (x ∷ xs)) ≡ length (runs_of (x ∷ xs)) = length-map (runs_of (x ∷ xs)) (λ r. r.row) in
      rw (counts-of-block build x xs few small, inner-part-of-block build x xs few small)
      (h i (omega (arith, runs-of-block build x xs few small)))
