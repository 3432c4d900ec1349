-- 01, "Block samples" A to J: one list, and what it means that the definitions give a sample. Assumes nothing.
use Rattle.std.specs.Prelude.{ℕ, ◌≡◌, List, [], ◌∷◌, pos, negsuc, length, replicate, Some, None}
use Rattle.varint.specs.Varint.{count_of, spelling, counted}
use Rattle.encode.specs.declared.Primitive.TheVariants.{I16, I32, Date, Interval}
use Rattle.encode.specs.declared.Kind.{Kind}
use Rattle.encode.specs.Kinds.{blob}
use Rattle.encode.specs.declared.Kind.TheVariants.{Fixed, Char}
use Rattle.plain.specs.Rows.{Row, null, int, bytes, interval}
use Rattle.format.specs.declared.Encoding.{Encoding}
use Rattle.format.specs.declared.Encoding.TheVariants.{Plain, Nullable, RunLength, RunLengthNullable, Dictionary}
use Rattle.format.specs.Blocks.{column_of, block_of, stored_form, column}
use Rattle.format.specs.Opening.{open_number, rows_of}
use Rattle.format.specs.Sizes.{estimate_of}
use Rattle.block.specs.Reading.{Areas, opened}
use Rattle.block.specs.Calls.{Call, reading, Answer, gave, refused, play_opened}

-- ---- what a sample says
-- a kind, an encoding and a width by their numbers, and the pair that they name
pub record Pair : Type 0 where
  pub kind_number : ℕ
  pub encoding_number : ℕ
  pub width : ℕ
  pub kind : Kind
  pub encoding : Encoding

abbrev pub pair : ℕ → ℕ → ℕ → Kind → Encoding → Pair
pair kind_number encoding_number width kind encoding = record {
  kind_number = kind_number;
  encoding_number = encoding_number;
  width = width;
  kind = kind;
  encoding = encoding;
}

pub data Sample : Type 0 where
  -- rows and their block, which is sound and holds their stored form
  builds : Pair → List Row → List ℕ → Sample
  -- rows, their estimated size and their block's length
  measures : Pair → List Row → ℕ → ℕ → Sample
  -- a sound block and its rows
  holds : Pair → List ℕ → List Row → Sample
  -- a count and its bytes, both ways
  spells : ℕ → List ℕ → Sample
  -- bytes that are no count
  spells_none : List ℕ → Sample
  -- a block, opened with so many rows, and opening's number
  opens : Pair → ℕ → List ℕ → ℕ → Sample
  -- a block of so many rows, read by calls, and their answers
  reads : Pair → ℕ → List ℕ → List Call → List Answer → Sample

-- the definitions give it
abbrev pub Gives : Sample → Type 0
Gives (builds p rows b) =
    (column_of p.kind_number p.encoding_number p.width ≡ Some (column p.kind p.encoding))
    × (block_of p.kind p.encoding rows ≡ b)
    × (open_number p.kind_number p.encoding_number p.width (length rows) b ≡ 0)
    × (rows_of p.kind p.encoding (length rows) b ≡ stored_form p.kind p.encoding rows)
Gives (measures p rows estimate len) = (estimate_of p.kind p.encoding rows ≡ estimate) × (length (block_of p.kind p.encoding rows) ≡ len)
Gives (holds p b rows) =
    (open_number p.kind_number p.encoding_number p.width (length rows) b ≡ 0) × (rows_of p.kind p.encoding (length rows) b ≡ rows)
Gives (spells v bs) = (spelling v ≡ bs) × (count_of bs ≡ counted v (length bs))
Gives (spells_none bs) = count_of bs ≡ None
Gives (opens p n b number) = open_number p.kind_number p.encoding_number p.width n b ≡ number
Gives (reads p n b calls answers) = play_opened (opened p.kind_number p.encoding_number p.width n b) b calls ≡ answers

abbrev pub GivesEach : List Sample → Type 0
GivesEach [] = Unit
GivesEach (s ∷ ss) = Gives s × GivesEach ss

-- ---- the samples
abbrev i32_runs : Pair
i32_runs = pair 2 2 0 (Fixed I32) RunLength

abbrev blob_words : Pair
blob_words = pair 9 4 0 blob Dictionary

abbrev char3 : Pair
char3 = pair 8 0 3 (Char 3) Plain

abbrev rows_a : List Row
rows_a = int (pos 7) ∷ int (pos 7) ∷ int (pos 7) ∷ int (negsuc 0) ∷ []

abbrev block_a : List ℕ
block_a = 0x02 ∷ 0x00 ∷ 0x00 ∷ 0x00 ∷ 0x02 ∷ 0x00 ∷ 0x00 ∷ 0x00 ∷ 0x03 ∷ 0x01 ∷ 0x07 ∷ 0x00 ∷ 0x00 ∷ 0x00 ∷ 0xff ∷ 0xff ∷ 0xff ∷ 0xff ∷ []

abbrev rows_b : List Row
rows_b = bytes (0x61 ∷ 0x62 ∷ []) ∷ null ∷ bytes (0x61 ∷ 0x62 ∷ []) ∷ bytes (0x63 ∷ []) ∷ []

abbrev block_b : List ℕ
block_b =
    0x00 ∷ 0x00 ∷ 0x00 ∷ 0x00 ∷ 0x00 ∷ 0x00 ∷ 0x00 ∷ 0x1c ∷ 0x00 ∷ 0x00 ∷ 0x00 ∷ 0x02 ∷ 0x04 ∷ 0x00 ∷ 0x00 ∷ 0x00
    ∷ 0x04 ∷ 0x00 ∷ 0x00 ∷ 0x00 ∷ 0x01 ∷ 0x01 ∷ 0x01 ∷ 0x01 ∷ 0x01 ∷ 0x00 ∷ 0x00 ∷ 0x80 ∷ 0x00 ∷ 0x00 ∷ 0x00 ∷ 0x80
    ∷ 0x01 ∷ 0x00 ∷ 0x00 ∷ 0x80 ∷ 0x02 ∷ 0x00 ∷ 0x00 ∷ 0x80 ∷ 0x02 ∷ 0x00 ∷ 0x00 ∷ 0x00 ∷ 0x03 ∷ 0x00 ∷ 0x00 ∷ 0x00
    ∷ 0x61 ∷ 0x62 ∷ 0x63 ∷ []

abbrev block_d : List ℕ
block_d = 0x61 ∷ 0x00 ∷ 0x00 ∷ 0x61 ∷ 0x62 ∷ 0x63 ∷ 0x78 ∷ 0x00 ∷ 0x79 ∷ []

-- room for five rows, lent anew at each call
abbrev room : Areas
room = record { values = replicate 5 (pos 9); flags = replicate 5 9; ends = []; bytes = [] }

-- and no room
abbrev none : Areas
none = record { values = []; flags = []; ends = []; bytes = [] }

abbrev pub samples : List Sample
samples =
    -- A
    builds i32_runs rows_a block_a
    ∷ measures i32_runs rows_a 16 18
    -- B
    ∷ builds blob_words rows_b block_b
    -- C
    ∷ builds (pair 1 1 0 (Fixed I16) Nullable) (int (pos 5) ∷ null ∷ int (negsuc 1) ∷ []) (0x05 ∷ 0x00 ∷ 0x00 ∷ 0x00 ∷ 0xfe ∷ 0xff ∷ 0x05 ∷ 0x01 ∷ 0x00 ∷ 0x00 ∷ 0x00 ∷ [])
    -- D
    ∷ builds char3 (bytes (0x61 ∷ []) ∷ bytes (0x61 ∷ 0x62 ∷ 0x63 ∷ []) ∷ bytes (0x78 ∷ 0x00 ∷ 0x79 ∷ []) ∷ []) block_d
    ∷ holds char3 block_d (bytes (0x61 ∷ []) ∷ bytes (0x61 ∷ 0x62 ∷ 0x63 ∷ []) ∷ bytes (0x78 ∷ []) ∷ [])
    -- E
    ∷ builds (pair 4 0 0 (Fixed Date) Plain) (int (pos 1) ∷ []) (0x00 ∷ 0x00 ∷ 0x00 ∷ 0x01 ∷ [])
    ∷ builds (pair 7 0 0 (Fixed Interval) Plain) (int (interval (pos 14) (negsuc 2)) ∷ []) (0x00 ∷ 0x00 ∷ 0x00 ∷ 0x0e ∷ 0xff ∷ 0xff ∷ 0xff ∷ 0xfd ∷ [])
    -- F
    ∷ spells 127 (0x7f ∷ [])
    ∷ spells 128 (0x80 ∷ 0x01 ∷ [])
    -- G
    ∷ spells 0xefffffff (0xff ∷ 0xff ∷ 0xff ∷ 0xff ∷ 0x0e ∷ [])
    ∷ spells 0xffffffff (0xff ∷ 0xff ∷ 0xff ∷ 0xff ∷ 0x0f ∷ [])
    ∷ spells_none (0xff ∷ 0xff ∷ 0xff ∷ 0xff ∷ 0x10 ∷ [])
    ∷ opens i32_runs 1 (0x01 ∷ 0x00 ∷ 0x00 ∷ 0x00 ∷ 0x05 ∷ 0x00 ∷ 0x00 ∷ 0x00 ∷ 0xff ∷ 0xff ∷ 0xff ∷ 0xff ∷ 0x10 ∷ 0x07 ∷ 0x00 ∷ 0x00 ∷ 0x00 ∷ []) 12
    -- H
    ∷ builds (pair 2 1 0 (Fixed I32) Nullable) [] (0x00 ∷ 0x00 ∷ 0x00 ∷ 0x00 ∷ [])
    ∷ builds i32_runs [] []
    ∷ builds (pair 2 3 0 (Fixed I32) RunLengthNullable) [] []
    -- I, a call for each of its five, and with the skip and the first batch in one
    ∷ reads i32_runs 4 block_a (reading 2 0 none ∷ reading 0 1 room ∷ reading 0 5 room ∷ reading 0 5 room ∷ reading 1 0 none ∷ [])
    (gave 2 [] ∷ gave 0 (int (pos 7) ∷ []) ∷ gave 0 (int (negsuc 0) ∷ []) ∷ gave 0 [] ∷ refused 7 ∷ [])
    ∷ reads i32_runs 4 block_a (reading 2 1 room ∷ reading 0 5 room ∷ reading 0 5 room ∷ reading 1 0 none ∷ [])
    (gave 2 (int (pos 7) ∷ []) ∷ gave 0 (int (negsuc 0) ∷ []) ∷ gave 0 [] ∷ refused 7 ∷ [])
    -- J
    ∷ opens blob_words 4 (
    0x00 ∷ 0x00 ∷ 0x00 ∷ 0x00 ∷ 0x00 ∷ 0x00 ∷ 0x00 ∷ 0x1c ∷ 0x00 ∷ 0x00 ∷ 0x00 ∷ 0x02 ∷ 0x04 ∷ 0x00 ∷ 0x00 ∷ 0x00
    ∷ 0x04 ∷ 0x00 ∷ 0x00 ∷ 0x00 ∷ 0x01 ∷ 0x01 ∷ 0x01 ∷ 0x01 ∷ 0x01 ∷ 0x00 ∷ 0x00 ∷ 0x80 ∷ 0x00 ∷ 0x00 ∷ 0x00 ∷ 0x80
    ∷ 0x01 ∷ 0x00 ∷ 0x00 ∷ 0x80 ∷ 0x03 ∷ 0x00 ∷ 0x00 ∷ 0x80 ∷ 0x02 ∷ 0x00 ∷ 0x00 ∷ 0x00 ∷ 0x03 ∷ 0x00 ∷ 0x00 ∷ 0x00
    ∷ 0x61 ∷ 0x62 ∷ 0x63 ∷ []) 15
    ∷ []
