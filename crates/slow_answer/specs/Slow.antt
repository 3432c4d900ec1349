-- 02 (xiii): row r of a block, found from the block's start, with no reader kept. Refusals: opening's, then 7 for r at or above n, then 4. It is given in the
-- form of a read of one row. Assumes nothing.
use Rattle.std.specs.Prelude.{ℕ, zero, suc, cond, List, [], ◌∷◌, leb, get_or, Result, Ok, Err, Option, Some, None}
use Rattle.limits.specs.Refusals.{COLUMN, ROOM, TOO_FAR, refusal_number}
use Rattle.limits.specs.declared.refusal.Refusal.{Refusal}
use Rattle.encode.specs.declared.Kind.{Kind}
use Rattle.plain.specs.Rows.{Row, null}
use Rattle.format.specs.declared.Column.{Column}
use Rattle.format.specs.Blocks.{column_of}
use Rattle.format.specs.Opening.{rows_of}
use Rattle.fill.specs.Areas.{Areas, short, filled_in, given_bytes}
use Rattle.descriptor.specs.declared.Descriptor.{Descriptor}
use Rattle.descriptor.specs.Descriptor.{described_number}
use Rattle.slow_answer.specs.declared.RowGiven.{RowGiven}

-- what the call comes to: its answer, and what the lent areas then hold
pub record Shown : Type 0 where
  pub answer : RowGiven
  pub areas : Areas

abbrev pub row_given : ℕ → ℕ → RowGiven
row_given number bytes = record { number = number; bytes = bytes }

-- what the bytes written, or a refusal, come back as
abbrev pub answer_of : Result ℕ Refusal → RowGiven
answer_of (Ok bytes) = row_given 0 bytes
answer_of (Err e) = row_given (refusal_number e) 0

abbrev pub refused_row : ℕ → Areas → Shown
refused_row e a = record { answer = row_given e 0; areas = a }

-- one row given: 4 if the room is too short for it
unfoldable pub shown_in : Kind → Row → Areas → Shown
shown_in k row a =
    cond (short k (row ∷ []) a) (refused_row ROOM a)
    (record { answer = row_given 0 (given_bytes k (row ∷ [])); areas = filled_in k (row ∷ []) a })

unfoldable pub shown_of : Option Column → ℕ → List ℕ → ℕ → Areas → Shown
shown_of None n b r a = refused_row COLUMN a
shown_of (Some c) n b r a = cond (leb n r) (refused_row TOO_FAR a) (shown_in c.kind (get_or (rows_of c.kind c.encoding n b) r null) a)

unfoldable pub shown_by : ℕ → Option Column → ℕ → List ℕ → ℕ → Areas → Shown
shown_by zero c n b r a = shown_of c n b r a
shown_by (suc e) c n b r a = refused_row (suc e) a

abbrev pub row_shown : Descriptor → List ℕ → ℕ → Areas → Shown
row_shown d b r a = shown_by (described_number d b) (column_of d.kind d.encoding d.width) d.rows b r a
