-- 02 (ix), what is wanted of a sheet file: calls on one of its columns, each with all that comes of it, and files that agree in that column. Assumes nothing.
use Rattle.std.specs.Prelude.{ℕ, ◌+◌, ◌<◌, List, [], ◌∷◌, ◌≡◌, length, get_or, take, drop, Result}
use Rattle.encode.specs.declared.Kind.{Kind}
use Rattle.plain.specs.Rows.{Row}
use Rattle.format.specs.declared.Encoding.{Encoding}
use Rattle.format.specs.Blocks.{block_of}
use Rattle.block.specs.declared.Reader.{Reader}
use Rattle.block.specs.declared.Left.{Left}
use Rattle.block.specs.Reading.{Areas, Batch, opened, read, remaining}
use Rattle.sheet.specs.declared.Found.{Found}
use Rattle.sheet.specs.Sheet.{columns_in, directory_end, entry_at, named_by, sheet_number, column_found, column_part}
use Rattle.sheet_writer.specs.Writing.{Filed, blocks_of, columns_lent, filed_in, Write, write}

-- ---- calls
-- a read, for which areas are lent anew, or the rows that remain
pub data Ask : Type 0 where
  rows : ℕ → ℕ → Areas → Ask
  rows_left : Ask

-- all that comes of a call: the number, the counts, the record and what the areas hold
pub data Told : Type 0 where
  gave : Batch → Told
  left : Left → Told

unfoldable pub told : Reader → List ℕ → Ask → Told
told r b (rows skip size a) = gave (read r b skip size a)
told r b rows_left = left (remaining r)

unfoldable pub next : Reader → List ℕ → Ask → Reader
next r b (rows skip size a) = (read r b skip size a).answer.reader
next r b rows_left = (remaining r).reader

unfoldable pub told_all : Reader → List ℕ → List Ask → List Told
told_all r b [] = []
told_all r b (q ∷ qs) = told r b q ∷ told_all (next r b q) b qs

-- column j, opened and asked
pub record Heard : Type 0 where
  pub opening : Found
  pub answers : List Told

unfoldable pub heard : List ℕ → ℕ → List Ask → Heard
heard f j qs = record { opening = column_found f j; answers = told_all (column_found f j).reader (column_part f j) qs }

-- the same by a caller who takes the bytes at the place that was answered
unfoldable pub placed : List ℕ → Found → List ℕ
placed f x = take x.len (drop x.from f)

unfoldable pub heard_at_place : List ℕ → ℕ → List Ask → Heard
heard_at_place f j qs = record { opening = column_found f j; answers = told_all (column_found f j).reader (placed f (column_found f j)) qs }

-- ---- files of equal length and equal column count that agree in entry j, if there is one, and in the bytes it names, if it names any
pub record Agree (f g : List ℕ) (j : ℕ) : Type 0 where
  pub long : length f ≡ length g
  pub columns : columns_in f ≡ columns_in g
  pub entry : j < columns_in f → entry_at j f ≡ entry_at j g
  pub bytes : sheet_number f j ≡ 0 → named_by (entry_at j f) f ≡ named_by (entry_at j f) g

-- ---- the file that a call wrote, and the columns that it was lent
abbrev pub file_in : Write → List ℕ
file_in w = take w.answer.len w.out

abbrev pub columns_of : List ℕ → List ℕ → List Filed
columns_of numbers blocks = filed_in (columns_lent numbers) numbers blocks

abbrev pub none_filed : Filed
none_filed = record { descriptor = record { kind = 0; encoding = 0; width = 0; zero = 0; rows = 0 }; block = [] }

abbrev pub column : List Filed → ℕ → Filed
column cs j = get_or cs j none_filed

-- a column of rows: its pair by number, how many rows they are, and their block
abbrev pub filed_rows : ℕ → ℕ → ℕ → Kind → Encoding → List Row → Filed
filed_rows kind encoding width k e xs = record {
  descriptor = record { kind = kind; encoding = encoding; width = width; zero = 0; rows = length xs };
  block = block_of k e xs;
}

-- a column's block opened by itself
abbrev pub own_opening : Filed → Result Reader ℕ
own_opening c = opened c.descriptor.kind c.descriptor.encoding c.descriptor.width c.descriptor.rows c.block

-- where its block lies: behind the directory and the blocks before it
abbrev pub place_of : List Filed → ℕ → ℕ
place_of cs j = directory_end (length cs) + length (blocks_of (take j cs))
