-- 02 (ix): a sheet file of many columns, and one of them opened. First byte: the number of columns. Then 16 bytes a column. Then whatever follows: the
-- blocks lie where the entries say. Only the column's own entry and block are looked at. Assumes nothing.
use Rattle.std.specs.Prelude.{ℕ, zero, suc, ◌+◌, ◌*◌, cond, List, [], ◌∷◌, ltb, leb, eqb, length, get_or, take, drop, Result, Ok, Err}
use Rattle.limits.specs.Limits.{MOST_FILE, MOST_COLUMNS}
use Rattle.limits.specs.Refusals.{LIMIT, NO_COLUMN, SHEET, OUTSIDE}
use Rattle.encode.specs.Bytes.{high-first, number_of}
use Rattle.plain.specs.Rules.{◌if◌, first_of}
use Rattle.block.specs.declared.Reader.{Reader}
use Rattle.block.specs.Reading.{no_reader}
use Rattle.descriptor.specs.declared.Descriptor.{Descriptor}
use Rattle.descriptor.specs.Descriptor.{descriptor_of, described_opened}
use Rattle.sheet.specs.declared.Found.{Found}

-- ---- the directory
abbrev pub columns_in : List ℕ → ℕ
columns_in f = get_or f 0 0

-- where the directory of so many columns ends; so it is also where entry j begins
abbrev pub directory_end : ℕ → ℕ
directory_end c = 1 + 16 * c

abbrev pub entry_at : ℕ → List ℕ → List ℕ
entry_at j f = take 16 (drop (directory_end j) f)

-- ---- an entry: the descriptor of 01, the block's offset from the file's start and its length, the most significant byte first
abbrev pub descriptor_in : List ℕ → Descriptor
descriptor_in e = descriptor_of (take 8 e)

abbrev pub offset_in : List ℕ → ℕ
offset_in e = number_of high-first (take 4 (drop 8 e))

abbrev pub length_in : List ℕ → ℕ
length_in e = number_of high-first (take 4 (drop 12 e))

-- the bytes that it names
abbrev pub named_by : List ℕ → List ℕ → List ℕ
named_by e f = take (length_in e) (drop (offset_in e) f)

-- ---- column j opened: 3 above the size; 21 empty, over 64 columns or directory cut; 20 no column j; 22 an offset below the directory's end or a block
-- end past the file; then opening's own
unfoldable pub sheet_number : List ℕ → ℕ → ℕ
sheet_number f j = first_of (
    LIMIT if ltb MOST_FILE (length f)
    ∷ SHEET if eqb (length f) 0
    ∷ SHEET if ltb MOST_COLUMNS (columns_in f)
    ∷ SHEET if ltb (length f) (directory_end (columns_in f))
    ∷ NO_COLUMN if leb (columns_in f) j
    ∷ OUTSIDE if ltb (offset_in (entry_at j f)) (directory_end (columns_in f))
    ∷ OUTSIDE if ltb (length f) (offset_in (entry_at j f) + length_in (entry_at j f))
    ∷ [])

unfoldable pub opened_in : ℕ → Descriptor → List ℕ → Result Reader ℕ
opened_in zero d b = described_opened d b
opened_in (suc e) d b = Err (suc e)

abbrev pub column_opened : List ℕ → ℕ → Result Reader ℕ
column_opened f j = opened_in (sheet_number f j) (descriptor_in (entry_at j f)) (named_by (entry_at j f) f)

-- the answer, with the place of the block; beside a refusal nothing stands
abbrev pub found : ℕ → ℕ → ℕ → Reader → Found
found e from len r = record { number = e; from = from; len = len; reader = r }

unfoldable pub found_by : Result Reader ℕ → ℕ → ℕ → Found
found_by (Ok r) from len = found 0 from len r
found_by (Err e) from len = found e 0 0 no_reader

abbrev pub column_found : List ℕ → ℕ → Found
column_found f j = found_by (column_opened f j) (offset_in (entry_at j f)) (length_in (entry_at j f))

-- the column's block, for the calls on its reader; none where the file or the entry is refused
unfoldable pub column_part : List ℕ → ℕ → List ℕ
column_part f j = cond (eqb (sheet_number f j) 0) (named_by (entry_at j f) f) []
