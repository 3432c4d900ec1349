-- Calls that differ in what the lent areas hold and in nothing else, and what it means that two reads come to the same. Assumes nothing.
use Rattle.std.specs.Prelude.{ℕ, ◌≤◌, List, [], ◌∷◌, ◌≡◌, ℤ, length, Option}
use Rattle.area.specs.Area.{over}
use Rattle.format.specs.declared.Column.{Column}
use Rattle.block.specs.Reading.{Areas, areas, Batch}
use Rattle.block.specs.Calls.{Call, reading, handed}

-- areas that hold anything, of the same lengths
pub record SameRoom (a a' : Areas) : Type 0 where
  pub values : length a.values ≡ length a'.values
  pub flags : length a.flags ≡ length a'.flags
  pub ends : length a.ends ≡ length a'.ends
  pub bytes : length a.bytes ≡ length a'.bytes

-- Two reads that answer the same and write the same: the same values, flags, ends and bytes from the start of the areas on, no more of them than
-- the answer tells, and nothing else. So the rows that are read from the areas are the same.
pub record SameBatch (c : Option Column) (a a' : Areas) (x x' : Batch) : Type 0 where
  pub answer : x.answer ≡ x'.answer
  pub values : List ℤ
  pub flags : List ℕ
  pub ends : List ℕ
  pub bytes : List ℕ
  pub first : x.areas ≡ areas (over a.values 0 values) (over a.flags 0 flags) (over a.ends 0 ends) (over a.bytes 0 bytes)
  pub second : x'.areas ≡ areas (over a'.values 0 values) (over a'.flags 0 flags) (over a'.ends 0 ends) (over a'.bytes 0 bytes)
  pub values-few : length values ≤ x.answer.rows
  pub flags-each : length flags ≡ x.answer.rows
  pub ends-few : length ends ≤ x.answer.rows
  pub bytes-told : length bytes ≡ x.answer.bytes
  pub read : handed c x.answer.rows x.areas ≡ handed c x'.answer.rows x'.areas

-- the same calls, but for what the lent areas hold
abbrev pub SameCall : Call → Call → Type 0
SameCall (reading skip size a) (reading skip' size' a') = (skip ≡ skip') × (size ≡ size') × SameRoom a a'

abbrev pub SameCalls : List Call → List Call → Type 0
SameCalls [] [] = Unit
SameCalls [] (d ∷ ds) = ⊥
SameCalls (c ∷ cs) [] = ⊥
SameCalls (c ∷ cs) (d ∷ ds) = SameCall c d × SameCalls cs ds
