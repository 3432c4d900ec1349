-- A run-length block over any inner block against its estimate, if the inner block has so many bytes more than its own. Assumes nothing.
use Prim.Native.Nat.{ℕ, ◌+◌, ◌*◌, ◌≤◌}
use native.Mathlib.Omega.{arith}
use mathlib.Core.List.{List, [], ◌∷◌}
use mathlib.Core.Path.{◌≡◌}
use lib.ListN.{length, length-append}
use Rattle.plain.specs.Rows.{Row}
use Rattle.rle.specs.RunLength.{runs_of, counts_of, run_length_of}
use Rattle.format.specs.Sizes.{run_rows, run_length_size}
use Rattle.estimate_laws.specs.Bounds.{SomeRows}
use Rattle.estimate_laws.proofs.Counts.{counts-between}

module _ (build : List Row → List ℕ) (size : List Row → ℕ) (more : ℕ) (inner : (rows : List Row) → length (build rows) ≡ size rows + more) where
  -- To the byte: the estimate has four bytes of the eight before the counts, and takes two bytes for a count.
  to-the-byte :
      (x : Row) (xs : List Row)
      → length (run_length_of build (x ∷ xs)) + 2 * length (runs_of (x ∷ xs)) ≡ run_length_size size (x ∷ xs) + 4 + more + length (counts_of (runs_of (x ∷ xs)))
  unfolding run_length_of run_length_size run_rows
  to-the-byte x xs =
      let rows : List Row = x ∷ xs in
      omega (arith, length-append (counts_of (runs_of rows)) (build (run_rows rows)), inner (run_rows rows))

  pub runs-at-most : (rows : List Row) → length (run_length_of build rows) ≤ run_length_size size rows + 4 + more + 3 * length (runs_of rows)
  runs-at-most [] = unfold run_length_of in omega arith
  runs-at-most (x ∷ xs) = omega (arith, to-the-byte x xs, counts-between (x ∷ xs))

  pub runs-at-least : (rows : List Row) → SomeRows rows → run_length_size size rows + 4 + more ≤ length (run_length_of build rows) + length (runs_of rows)
  runs-at-least [] some = absurd (omega arith)
  runs-at-least (x ∷ xs) some = omega (arith, to-the-byte x xs, counts-between (x ∷ xs))
