-- 02 (xii), what is shown of salvaging, in its words. Each speaks of a dictionary block b of n rows of kind k that meets all rules but 15. Assumes nothing.
use Rattle.std.specs.Prelude.{ℕ, ◌≤◌, ◌<◌, Bool, true, false, List, [], ◌↔◌, ◌≡◌, length, get_or, Some}
use Rattle.encode.specs.declared.Kind.{Kind}
use Rattle.plain.specs.Rows.{Row, null}
use Rattle.format.specs.declared.Encoding.TheVariants.{Dictionary}
use Rattle.format.specs.Blocks.{block_of, column}
use Rattle.format.specs.Opening.{column_number, head_of, row_at, places_of, rows_of}
use Rattle.ranges.specs.Exactly.{Has}
use Rattle.damaged.specs.Damaged.{is_lost, repaired_rows, lost_ranges}

-- ---- a row: the run that it lies in, whether the key of that names no entry, and what the block shows there
abbrev pub run_at : ℕ → List ℕ → ℕ → ℕ
run_at n b i = get_or (places_of Dictionary n (head_of Dictionary b) b) i 0

abbrev pub key_unknown : ℕ → List ℕ → ℕ → Bool
key_unknown n b i = is_lost (head_of Dictionary b) b (run_at n b i)

abbrev pub row_there : Kind → ℕ → List ℕ → ℕ → Row
row_there k n b i = row_at k Dictionary n (head_of Dictionary b) b (run_at n b i)

-- ---- "a row is in a range exactly if its key names no entry, and only such rows change"
abbrev pub LostExactly : ℕ → List ℕ → Type 0
LostExactly n b = (i : ℕ) → i < n → (key_unknown n b i ≡ true) ↔ Has (lost_ranges n b) i

abbrev pub OnlyLostChange : Kind → ℕ → List ℕ → Type 0
OnlyLostChange k n b =
    (i : ℕ) → i < n
    → (key_unknown n b i ≡ true → get_or (repaired_rows k n b) i null ≡ null)
    × (key_unknown n b i ≡ false → get_or (repaired_rows k n b) i null ≡ row_there k n b i)

-- ---- "the written block opens with n rows and gives the repaired rows"
abbrev pub written : Kind → ℕ → List ℕ → List ℕ
written k n b = block_of k Dictionary (repaired_rows k n b)

abbrev pub GivesRepaired : Kind → ℕ → List ℕ → Type 0
GivesRepaired k n b = (column_number (Some (column k Dictionary)) n (written k n b) ≡ 0) × (rows_of k Dictionary n (written k n b) ≡ repaired_rows k n b)

-- "the block is never longer than the damaged one"
abbrev pub NeverLonger : Kind → ℕ → List ℕ → Type 0
NeverLonger k n b = length (written k n b) ≤ length b

-- ---- "a sound block gives no ranges and equal rows"
abbrev pub SoundStays : Kind → ℕ → List ℕ → Type 0
SoundStays k n b = (lost_ranges n b ≡ []) × (repaired_rows k n b ≡ rows_of k Dictionary n b)
