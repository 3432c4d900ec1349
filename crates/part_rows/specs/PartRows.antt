-- For the code: the next n rows, from the parts of a block and the place in its runs; of rows that are not coded by runs, the row is the run. Assumes
-- nothing.
use Rattle.std.specs.Prelude.{ℕ, ◌+◌, ◌≤◌, ◌≡◌, Bool, false, List, map, ℤ, length}
use Rattle.plain.specs.Rows.{Row}
use Rattle.plain.specs.Plain.{joined, ends_from}
use Rattle.rle.specs.declared.Spot.{Spot}
use Rattle.rle.specs.Stepping.{Steps}
use Rattle.rle.specs.Pieces.{steps_in, step_runs}
use Rattle.source.specs.declared.Marks.TheVariants.{Keys}
use Rattle.source.specs.Rows.{row_by, good_by, size_by, int_by, flag_by, text_by, sum_of, Ready, Starts, Writes}
use Rattle.anatomy.specs.declared.Parts.{Parts}
use Rattle.anatomy.specs.Parts.{part_in, marks_in, items_in, AllWithin}

-- ---- the next rows
unfoldable pub steps_by : Parts → Spot → List ℕ → ℕ → Steps
steps_by p from b n = steps_in p.source.coded p.source.runs (part_in p.counts b) n from

-- the item or the run that each lies in
abbrev pub places_in : Parts → Spot → List ℕ → ℕ → List ℕ
places_in p from b n = step_runs (steps_by p from b n)

-- what the parts say of place i: its row, whether it is good, its size in bytes, its value, its flag, its bytes
abbrev pub row_in : Parts → List ℕ → ℕ → Row
row_in p b i = row_by p.source (marks_in p b) (items_in p b) i

abbrev pub good_in : Parts → List ℕ → ℕ → Bool
good_in p b i = good_by p.source (marks_in p b) (items_in p b) i

abbrev pub size_in : Parts → List ℕ → ℕ → ℕ
size_in p b i = size_by p.source (marks_in p b) (items_in p b) i

abbrev pub value_in : Parts → List ℕ → ℕ → ℤ
value_in p b i = int_by p.source (marks_in p b) (items_in p b) i

abbrev pub flag_in : Parts → List ℕ → ℕ → ℕ
flag_in p b i = flag_by p.source (marks_in p b) (items_in p b) i

abbrev pub text_in : Parts → List ℕ → ℕ → List ℕ
text_in p b i = text_by p.source (marks_in p b) (items_in p b) i

-- and of all of them
abbrev pub values_given : Parts → Spot → List ℕ → ℕ → List ℤ
values_given p from b n = map (value_in p b) (places_in p from b n)

abbrev pub flags_given : Parts → Spot → List ℕ → ℕ → List ℕ
flags_given p from b n = map (flag_in p b) (places_in p from b n)

abbrev pub ends_given : Parts → Spot → List ℕ → ℕ → List ℕ
ends_given p from b n = ends_from 0 (map (text_in p b) (places_in p from b n))

abbrev pub bytes_given : Parts → Spot → List ℕ → ℕ → List ℕ
bytes_given p from b n = joined (text_in p b) (places_in p from b n)

abbrev pub weight_given : Parts → Spot → List ℕ → ℕ → ℕ
weight_given p from b n = sum_of (size_in p b) (places_in p from b n)

-- ---- what writing them asks
-- the second pass may write them into an area: they are there and good, and there is room
abbrev pub MayWrite : Parts → Spot → List ℕ → ℕ → ℕ → Type 0
MayWrite p from b n room = Writes (good_in p b) (steps_by p from b n) n room

-- all that reading them from the parts needs
pub record Serves (p : Parts) (from : Spot) (b : List ℕ) (n : ℕ) : Type 0 where
  pub within : AllWithin p (length b)
  pub ready : Ready p.source (marks_in p b) (items_in p b)
  pub starts : Starts p.source from n
  pub inside : p.source.coded ≡ false → from.run + n ≤ p.source.items
  pub keyed : p.source.coded ≡ false → p.source.marks ≡ Keys → ⊥
