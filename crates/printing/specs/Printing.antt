-- What a listing answers its caller: no contract can say what is written. Assumes nothing.
use Rattle.std.specs.Prelude.{ℕ, zero, suc, min, cond, List, [], ◌∷◌, eqb, pos, replicate, Result, Ok, Err}
use Rattle.limits.specs.Limits.{MOST_INPUT}
use Rattle.block.specs.declared.Reader.{Reader}
use Rattle.block.specs.declared.Given.{Given}
use Rattle.block.specs.declared.Left.{Left}
use Rattle.block.specs.Reading.{Areas, areas, remaining, read}

-- 0, or the number that is printed behind `refused`
unfoldable pub refusal_of : Result Reader ℕ → ℕ
refusal_of (Ok r) = 0
refusal_of (Err e) = e

-- ---- the rows of a reader, a read for each
-- the areas of one row, with so much room for its bytes; what they hold has no part in the answer
abbrev pub areas_for_one : ℕ → Areas
areas_for_one room = areas (pos 0 ∷ []) (0 ∷ []) (0 ∷ []) (replicate room 0)

unfoldable pub next_row : Reader → List ℕ → ℕ → Given
next_row r b room = (read r b 0 1 (areas_for_one room)).answer

-- of n such reads, one after the other, the number of the first that is refused; 0 if none is
unfoldable pub rows_refused : ℕ → Reader → List ℕ → ℕ → ℕ
rows_refused zero r b room = 0
rows_refused (suc n) r b room =
    cond (eqb (next_row r b room).number 0) (rows_refused n (next_row r b room).reader b room) (next_row r b room).number

-- the rows that a reader has left, at most 1,000 of them; a record that contradicts itself is refused when it is asked for them
unfoldable pub listed_of : Left → Reader → List ℕ → ℕ
listed_of l r b = cond (eqb l.number 0) (rows_refused (min l.rows 1000) r b MOST_INPUT) l.number

abbrev pub listed : Reader → List ℕ → ℕ
listed r b = listed_of (remaining r) r b
