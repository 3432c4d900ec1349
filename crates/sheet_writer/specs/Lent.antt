-- For the code: the entries and the length of the blocks, from the five numbers of each column alone. Assumes nothing.
use Rattle.std.specs.Prelude.{ℕ, zero, suc, ◌+◌, List, [], ◌∷◌, ◌++◌, ltb, length, take, drop, Result, Ok, Err}
use Rattle.limits.specs.Limits.{MOST_FILE}
use Rattle.limits.specs.Refusals.{LIMIT, ROOM}
use Rattle.encode.specs.Bytes.{big}
use Rattle.plain.specs.Rules.{◌if◌, first_of}
use Rattle.descriptor.specs.Descriptor.{descriptor_bytes}
use Rattle.sheet.specs.Sheet.{directory_end}
use Rattle.sheet_writer.specs.Writing.{length_at, first_filed, Write, write_by}

-- the entry of the first column, whose block is to lie at a place
abbrev pub lent_entry : ℕ → List ℕ → List ℕ
lent_entry at numbers = descriptor_bytes (first_filed numbers []).descriptor ++ big 4 at ++ big 4 (length_at numbers)

-- the entries of the first so many columns
unfoldable pub lent_entries : ℕ → ℕ → List ℕ → List ℕ
lent_entries zero at numbers = []
lent_entries (suc n) at numbers = lent_entry at numbers ++ lent_entries n (at + length_at numbers) (drop 5 numbers)

-- the length of their blocks
unfoldable pub lent_bytes : ℕ → List ℕ → ℕ
lent_bytes zero numbers = 0
lent_bytes (suc n) numbers = length_at numbers + lent_bytes n (drop 5 numbers)

-- that length, or the number of the first that is bad
unfoldable pub summed_by : ℕ → ℕ → Result ℕ ℕ
summed_by zero bytes = Ok bytes
summed_by (suc e) bytes = Err (suc e)

-- the file, and what is written of it
abbrev pub laid_out : ℕ → List ℕ → List ℕ → List ℕ
laid_out n numbers blocks = n ∷ lent_entries n (directory_end n) numbers ++ take (lent_bytes n numbers) blocks

unfoldable pub room_number : ℕ → ℕ → ℕ
room_number len room = first_of (LIMIT if ltb MOST_FILE len ∷ ROOM if ltb room len ∷ [])

abbrev pub write_from : ℕ → List ℕ → List ℕ → List ℕ → Write
write_from n numbers blocks out = write_by (room_number (length (laid_out n numbers blocks)) (length out)) (laid_out n numbers blocks) out
