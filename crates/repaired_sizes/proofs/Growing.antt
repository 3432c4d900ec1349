-- The entries after more rows: none is lost, and each row brings one at most. Assumes nothing.
use Prim.Native.Nat.{ℕ, suc, ◌+◌, ◌≤◌}
use native.Mathlib.Omega.{arith}
use mathlib.Core.Bool.{Bool, true, false, cond}
use mathlib.Core.List.{List, [], ◌∷◌, ◌++◌, map}
use lib.Dec.{ltb}
use lib.ListN.{length, length-append, length-map}
use Rattle.plain.specs.Rows.{Row, null, int, bytes}
use Rattle.plain.specs.Plain.{joined}
use Rattle.rle.specs.RunLength.{runs_of}
use Rattle.dict.specs.Dictionary.{index_of, with_entry, entries_after, entries_of}
use Rattle.dict.proofs.Entries.{entries-runs}
use Rattle.repaired_laws.proofs.FewerEntries.{joined-last}

-- what holds of the entries, and of them with the row behind them, holds after the row
module _ (P : List Row → Type 0) (es : List Row) where
  either : (r : Row) → P es → P (es ++ (r ∷ [])) → (t : Bool) → P (cond t es (es ++ (r ∷ [])))
  either r old new true = old
  either r old new false = new

  with-either : (r : Row) → P es → P (es ++ (r ∷ [])) → P (with_entry es r)
  unfolding with_entry
  with-either null old new = old
  with-either (int v) old new = either (int v) old new (ltb (index_of (int v) es) (length es))
  with-either (bytes bs) old new = either (bytes bs) old new (ltb (index_of (bytes bs) es) (length es))

-- ---- how many they are
with-one : (es : List Row) (r : Row) → (length es ≤ length (with_entry es r)) × (length (with_entry es r) ≤ suc (length es))
with-one es r =
    let e = length-append es (r ∷ []) in
    with-either (λ l. (length es ≤ length l) × (length l ≤ suc (length es))) es r (omega arith, omega arith) (omega arith, omega arith)

pub after-longer : (es rows : List Row) → length es ≤ length (entries_after es rows)
unfolding entries_after
after-longer es [] = omega arith
after-longer es (r ∷ rows) = omega (arith, with-one es r, after-longer (with_entry es r) rows)

after-most : (es rows : List Row) → length (entries_after es rows) ≤ length es + length rows
unfolding entries_after
after-most es [] = omega arith
after-most es (r ∷ rows) = omega (arith, with-one es r, after-most (with_entry es r) rows)

-- no more than runs
pub entries-few : (rows : List Row) → length (entries_of rows) ≤ length (runs_of rows)
unfolding entries_of
entries-few rows =
    let rs = map (λ x. x.row) (runs_of rows) in
    rw (entries-runs rows) (omega (arith, after-most [] rs, length-map (runs_of rows) (λ x. x.row)))

-- ---- the bytes of their items
with_items : (f : Row → List ℕ) (es : List Row) (r : Row) → length (joined f es) ≤ length (joined f (with_entry es r))
with_items f es r =
    with-either (λ l. length (joined f es) ≤ length (joined f l)) es r (omega arith) (omega (arith, joined-last f es r))

pub after_items : (f : Row → List ℕ) (es rows : List Row) → length (joined f es) ≤ length (joined f (entries_after es rows))
unfolding entries_after
after_items f es [] = omega arith
after_items f es (r ∷ rows) = omega (arith, with_items f es r, after_items f (with_entry es r) rows)
