-- 02 (ix): a sheet file written in one call. Lent are five numbers a column, kind, encoding, width, rows and its block's length, and the blocks one after
-- the other. Assumes nothing.
use Rattle.std.specs.Prelude.{ℕ, zero, suc, ◌+◌, ◌/◌, ◌%◌, not, List, [], ◌∷◌, ◌++◌, ltb, eqb, length, get_or, take, drop}
use Rattle.limits.specs.Limits.{MOST_FILE, MOST_COLUMNS}
use Rattle.limits.specs.Refusals.{LIMIT, ROOM, CUT, SHEET}
use Rattle.area.specs.Area.{over}
use Rattle.encode.specs.Bytes.{big}
use Rattle.plain.specs.Rules.{◌if◌, first_of}
use Rattle.plain.specs.Plain.{joined}
use Rattle.format.specs.Opening.{open_number}
use Rattle.descriptor.specs.declared.Descriptor.{Descriptor}
use Rattle.descriptor.specs.Descriptor.{descriptor_bytes}
use Rattle.sheet.specs.Sheet.{directory_end}
use Rattle.sheet_writer.specs.declared.Written.{Written}

-- ---- a column: its descriptor and its block
pub record Filed : Type 0 where
  pub descriptor : Descriptor
  pub block : List ℕ

-- ---- the file: the number of columns, an entry for each, the blocks straight behind the directory in column order
abbrev pub blocks_of : List Filed → List ℕ
blocks_of cs = joined (λ (c : Filed). c.block) cs

abbrev pub entry_of : ℕ → Filed → List ℕ
entry_of at c = descriptor_bytes c.descriptor ++ big 4 at ++ big 4 (length c.block)

unfoldable pub entries_from : ℕ → List Filed → List ℕ
entries_from at [] = []
entries_from at (c ∷ cs) = entry_of at c ++ entries_from (at + length c.block) cs

unfoldable pub file_of : List Filed → List ℕ
file_of cs = length cs ∷ entries_from (directory_end (length cs)) cs ++ blocks_of cs

-- ---- what is lent
-- the first column: kind, encoding, width, rows, and the length of its block
abbrev pub length_at : List ℕ → ℕ
length_at numbers = get_or numbers 4 0

abbrev pub first_filed : List ℕ → List ℕ → Filed
first_filed numbers blocks = record {
  descriptor = record { kind = get_or numbers 0 0; encoding = get_or numbers 1 0; width = get_or numbers 2 0; zero = 0; rows = get_or numbers 3 0 };
  block = take (length_at numbers) blocks;
}

-- the first so many
unfoldable pub filed_in : ℕ → List ℕ → List ℕ → List Filed
filed_in zero numbers blocks = []
filed_in (suc n) numbers blocks = first_filed numbers blocks ∷ filed_in n (drop 5 numbers) (drop (length_at numbers) blocks)

abbrev pub columns_lent : List ℕ → ℕ
columns_lent numbers = length numbers / 5

abbrev pub lent_file : List ℕ → List ℕ → List ℕ
lent_file numbers blocks = file_of (filed_in (columns_lent numbers) numbers blocks)

-- column by column: 10 where the lent bytes don't hold its block, else opening's number
abbrev pub filed_number : Filed → ℕ
filed_number c = open_number c.descriptor.kind c.descriptor.encoding c.descriptor.width c.descriptor.rows c.block

unfoldable pub first_number : List ℕ → List ℕ → ℕ
first_number numbers blocks = first_of (CUT if ltb (length blocks) (length_at numbers) ∷ filed_number (first_filed numbers blocks) ∷ [])

unfoldable pub blocks_number : ℕ → List ℕ → List ℕ → ℕ
blocks_number zero numbers blocks = 0
blocks_number (suc n) numbers blocks =
    first_of (first_number numbers blocks ∷ blocks_number n (drop 5 numbers) (drop (length_at numbers) blocks) ∷ [])

-- ---- the call: 21 over 64 columns or a list that is cut, the first bad block's number, 3, 4; on a refusal nothing is written
unfoldable pub write_number : List ℕ → List ℕ → ℕ → ℕ
write_number numbers blocks room = first_of (
    SHEET if ltb MOST_COLUMNS (columns_lent numbers)
    ∷ SHEET if not (eqb (length numbers % 5) 0)
    ∷ blocks_number (columns_lent numbers) numbers blocks
    ∷ LIMIT if ltb MOST_FILE (length (lent_file numbers blocks))
    ∷ ROOM if ltb room (length (lent_file numbers blocks))
    ∷ [])

abbrev pub written : ℕ → ℕ → Written
written e len = record { number = e; len = len }

pub record Write : Type 0 where
  pub answer : Written
  pub out : List ℕ

unfoldable pub write_by : ℕ → List ℕ → List ℕ → Write
write_by zero file out = record { answer = written 0 (length file); out = over out 0 file }
write_by (suc e) file out = record { answer = written (suc e) 0; out = out }

abbrev pub write : List ℕ → List ℕ → List ℕ → Write
write numbers blocks out = write_by (write_number numbers blocks (length out)) (lent_file numbers blocks) out
