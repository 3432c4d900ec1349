-- What the program `compare` answers: it prints ranges, or refuses. A file is a descriptor and a block, as the listing program's input. Assumes nothing.
use Rattle.std.specs.Prelude.{ℕ, not, List, [], ◌∷◌, ltb, eqb, length, take}
use Rattle.limits.specs.Limits.{MOST_INPUT}
use Rattle.limits.specs.Refusals.{COLUMN, LIMIT, CUT}
use Rattle.plain.specs.Rules.{◌if◌, first_of}
use Rattle.descriptor.specs.declared.Descriptor.{Descriptor}
use Rattle.descriptor.specs.Descriptor.{descriptor_of}
use Rattle.text.specs.Input.{block_in}
use Rattle.comparing.specs.Comparing.{Compare, ranges_between, compare_number, compare_by, compare}

-- the slots of each list that the program lends
abbrev pub SLOTS : ℕ
SLOTS = 2048

-- ---- a file
abbrev pub descriptor_in : List ℕ → Descriptor
descriptor_in f = descriptor_of (take 8 f)

-- its own tests, in order: no descriptor, too long, the zero bit set
unfoldable pub file_number : List ℕ → ℕ
file_number f = first_of (
    CUT if ltb (length f) 8
    ∷ LIMIT if ltb MOST_INPUT (length f)
    ∷ COLUMN if not (eqb (descriptor_in f).zero 0)
    ∷ [])

abbrev pub blocks_compared : List ℕ → List ℕ → List ℕ → List ℕ → Compare
blocks_compared x y firsts lasts = compare (descriptor_in x) (block_in x) (descriptor_in y) (block_in y) firsts lasts

-- ---- two files: all tests of the first, all of the second, and only then the comparison's
unfoldable pub files_number : List ℕ → List ℕ → ℕ → ℕ → ℕ
files_number x y firsts lasts = first_of (
    file_number x
    ∷ file_number y
    ∷ compare_number (descriptor_in x) (block_in x) (descriptor_in y) (block_in y) firsts lasts
    ∷ [])

-- the ranges in lent lists, as the comparison puts them down there
abbrev pub files_compared : List ℕ → List ℕ → List ℕ → List ℕ → Compare
files_compared x y firsts lasts =
    compare_by (files_number x y (length firsts) (length lasts)) (ranges_between (descriptor_in x) (block_in x) (descriptor_in y) (block_in y)) firsts lasts

-- 0, or the number that is printed behind `refused`
abbrev pub compares_asked : List ℕ → List ℕ → ℕ
compares_asked x y = files_number x y SLOTS SLOTS
