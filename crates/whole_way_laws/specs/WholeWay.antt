-- The way of a column: a builder's calls, finish, opening what it wrote with the number of rows accepted, a reader's calls. Assumes nothing.
use Rattle.std.specs.Prelude.{ℕ, cond, List, [], ◌∷◌, ◌++◌, eqb, length, take, replicate}
use Rattle.encode.specs.declared.Kind.{Kind}
use Rattle.plain.specs.Rows.{Row}
use Rattle.append.specs.Appending.{Lent}
use Rattle.builder.specs.declared.Builder.{Builder}
use Rattle.builder.specs.Finishing.{Finish, finished}
use Rattle.building_laws.specs.Built.{row_in}
use Rattle.any_building_laws.specs.BuilderCalls.{Ask, append, finish, estimate, should_finish_before, Call as BuilderCall, Answer as BuilderAnswer, number_in, after_all}
use Rattle.block.specs.Reading.{opened}
use Rattle.block.specs.Calls.{Call as ReaderCall, Answer as ReaderAnswer, play_opened}

-- ---- the rows accepted, as the caller sees them: those of the appends that were answered with 0, in order
unfoldable pub row_if_done : Kind → Ask → BuilderAnswer → List Row
row_if_done k (append n g) x = cond (eqb (number_in x) 0) (replicate n (row_in k g)) []
row_if_done k (finish out) x = []
row_if_done k estimate x = []
row_if_done k (should_finish_before g) x = []

unfoldable pub rows_done : Kind → List BuilderCall → List BuilderAnswer → List Row
rows_done k [] xs = []
rows_done k (c ∷ cs) [] = []
rows_done k (c ∷ cs) (x ∷ xs) = row_if_done k c.ask x ++ rows_done k cs xs

-- ---- finish after some calls, and the block as it wrote it: the first len bytes of the room
unfoldable pub finished_after : Builder → Lent → List BuilderCall → Lent → List ℕ → Finish
finished_after r a cs lent out = finished (after_all r a cs).builder lent out

unfoldable pub written : Finish → List ℕ
written f = take f.answer.len f.out

-- ---- a block, opened with the number of some rows and read by calls
unfoldable pub read_back : ℕ → ℕ → ℕ → List Row → List ℕ → List ReaderCall → List ReaderAnswer
read_back kind encoding width rows block ds = play_opened (opened kind encoding width (length rows) block) block ds
