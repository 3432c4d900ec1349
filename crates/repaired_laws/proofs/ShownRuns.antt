-- The rows of run counts that are walked, where each run shows some row: they are those of as many runs with these counts, so that their own runs
-- are no more and take no more bytes. Assumes nothing.
use Rattle.std.specs.Prelude.{Ok}
use Prim.Native.Nat.{ℕ, zero, suc, ◌+◌, ◌<◌}
use native.Mathlib.Nat.{add-zero}
use native.Mathlib.Omega.{arith}
use mathlib.Core.List.{List, [], ◌∷◌, ◌++◌, map, map-id}
use mathlib.Core.Path.{◌≡◌, refl, sym, ap, subst, ◌∙◌}
use lib.ListN.{length, take, drop, get_or, length-map}
use lib.Seq.{get_or-drop}
use Rattle.varint.specs.Varint.{spelling}
use Rattle.varint.proofs.OneSpelling.{Bytes}
use Rattle.varint.proofs.Within.{count_small}
use Rattle.plain.specs.Each.{Each}
use Rattle.plain.specs.Rows.{Row, null}
use Rattle.plain.specs.Plain.{joined}
use Rattle.rle.specs.RunLength.{Run, run, runs_of, counts_of, walked, counts_part, run_numbers}
use Rattle.rle.specs.Stepping.{spot}
use Rattle.rle.proofs.Steps.{steps-length}
use Rattle.rle.proofs.Whole.{whole-steps}
use Rattle.block_laws.proofs.Runs.{spread, Counted, over_runs}
use Rattle.soundness_laws.specs.Sound.{Written, RunCount, values}
use Rattle.soundness_laws.proofs.Counts.{Counts, walk-counts}
use Rattle.soundness_laws.proofs.Spelled.{counts-spelled}
use Rattle.repaired_laws.proofs.Merging.{AtMost, merged}

-- ---- a part of a list of bytes is one
bytes-first : (n : ℕ) (s : List ℕ) → Bytes s → Bytes (take n s)
bytes-first zero s h i = omega arith
bytes-first (suc n) [] h i = omega arith
bytes-first (suc n) (b ∷ s) h zero = h 0
bytes-first (suc n) (b ∷ s) h (suc i) = bytes-first n s (λ j. h (suc j)) i

pub counts-bytes : (len : ℕ) (b : List ℕ) → Bytes b → Bytes (counts_part len b)
unfolding counts_part
counts-bytes len b h = bytes-first len (drop 8 b) (λ i. rw (get_or-drop 8 b i 0) (h (8 + i)))

-- ---- the runs of some counts, from run i on
module _ (show : ℕ → Row) where
  unfoldable shown_runs : ℕ → List Written → List Run
  shown_runs i [] = []
  shown_runs i (w ∷ ws) = run (show i) w.value ∷ shown_runs (suc i) ws

  as_many : (i : ℕ) (ws : List Written) → length (shown_runs i ws) ≡ length ws
  unfolding shown_runs
  as_many i [] = refl
  as_many i (w ∷ ws) = ap suc (as_many (suc i) ws)

  same-counts : (i : ℕ) (ws : List Written) → counts_of (shown_runs i ws) ≡ joined spelling (values ws)
  unfolding shown_runs counts_of joined
  same-counts i [] = refl
  same-counts i (w ∷ ws) = ap (λ (l : List ℕ). spelling w.value ++ l) (same-counts (suc i) ws)

  all-counted : (i : ℕ) (ws : List Written) → Each RunCount ws → Each Counted (shown_runs i ws)
  unfolding shown_runs
  all-counted i [] h = tt
  all-counted i (w ∷ ws) h = ((h.0.1, count_small w.bytes w.value (length w.bytes) (sym h.0.0)), all-counted (suc i) ws h.1)

  shown : (i : ℕ) (ws : List Written) (j : ℕ) → j < length ws → show (i + j) ≡ get_or (map (λ r. r.row) (shown_runs i ws)) j null
  unfolding shown_runs
  shown i [] j l = absurd (omega arith)
  shown i (w ∷ ws) zero l = ap show (add-zero i)
  shown i (w ∷ ws) (suc j) l = let e : i + suc j ≡ suc i + j = omega arith in ap show e ∙ shown (suc i) ws j (omega arith)

  -- ---- of counts that are walked
  module _ (runs : ℕ) (counts : List ℕ) (n : ℕ) (sum : walked runs counts ≡ Ok n) where
    abbrev rows : List Row
    rows = map show (run_numbers runs 0 counts)

    module _ (fit : Bytes counts) where
      c : Counts runs counts n
      c = walk-counts runs counts n sum

      abbrev rs : List Run
      rs = shown_runs 0 c.counts

      many : length rs ≡ runs
      many = as_many 0 c.counts ∙ c.many

      spelled : counts_of rs ≡ counts
      spelled = same-counts 0 c.counts ∙ sym (c.whole ∙ counts-spelled c.counts c.each (subst Bytes c.whole fit))

      counted : Each Counted rs
      counted = all-counted 0 c.counts c.each

      as-spread : rows ≡ spread rs
      as-spread =
          ap (λ (m : ℕ). map show (run_numbers m 0 counts)) (sym many)
          ∙ ap (λ (l : List ℕ). map show (run_numbers (length rs) 0 l)) (sym spelled)
          ∙ over_runs show (λ r. r) rs 0 counted (λ j l. shown 0 c.counts j (omega (arith, as_many 0 c.counts)))
          ∙ map-id (spread rs)

      -- their runs are at most as many, and the bytes of their counts too
      pub runs-at-most : AtMost runs (length counts) (runs_of rows)
      runs-at-most =
          let h = merged rs counted in
          let fewer : length (runs_of rows) ≡ length (runs_of (spread rs)) = ap (λ (l : List Row). length (runs_of l)) as-spread in
          let shorter : length (counts_of (runs_of rows)) ≡ length (counts_of (runs_of (spread rs))) = ap (λ (l : List Row). length (counts_of (runs_of l))) as-spread in
          record { runs = omega (arith, many); counts = omega (arith, ap length spelled) }

    pub rows-many : length rows ≡ n
    rows-many = length-map (run_numbers runs 0 counts) show ∙ steps-length runs counts n (spot 0 0 0) (whole-steps runs counts n sum).1
