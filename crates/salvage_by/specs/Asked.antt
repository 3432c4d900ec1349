-- What the program `salvage` answers: it makes a file and prints ranges, or refuses. A file is a descriptor and a block, as the listing program's input. Assumes nothing.
use Rattle.std.specs.Prelude.{ℕ, List, [], ◌∷◌, ltb, length, take}
use Rattle.limits.specs.Limits.{MOST_INPUT}
use Rattle.limits.specs.Refusals.{LIMIT, CUT}
use Rattle.plain.specs.Rules.{◌if◌, first_of}
use Rattle.descriptor.specs.declared.Descriptor.{Descriptor}
use Rattle.descriptor.specs.Descriptor.{descriptor_of}
use Rattle.text.specs.Input.{block_in}
use Rattle.salvaging.specs.Salvaging.{Salvage, salvaged_block, salvaged_ranges, salvage_number, salvage_by}

-- the slots of each list that the program lends
abbrev pub SLOTS : ℕ
SLOTS = 6551

abbrev pub descriptor_in : List ℕ → Descriptor
descriptor_in f = descriptor_of (take 8 f)

-- ---- a file: no descriptor, too long, and only then the salvage's own
unfoldable pub file_number : List ℕ → ℕ → ℕ → ℕ → ℕ
file_number f firsts lasts out = first_of (
    CUT if ltb (length f) 8
    ∷ LIMIT if ltb MOST_INPUT (length f)
    ∷ salvage_number (descriptor_in f) (block_in f) firsts lasts out
    ∷ [])

-- the block and the ranges in lent memory, as the salvage puts them down there
abbrev pub file_salvaged : List ℕ → List ℕ → List ℕ → List ℕ → Salvage
file_salvaged f firsts lasts out =
    salvage_by
    (file_number f (length firsts) (length lasts) (length out))
    (salvaged_block (descriptor_in f) (block_in f))
    (salvaged_ranges (descriptor_in f) (block_in f))
    firsts
    lasts
    out
