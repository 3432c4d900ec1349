-- A sequence of calls on one reader and one block, and what they hand out. Assumes nothing.
use Rattle.std.specs.Prelude.{Result, Ok, Err, ℕ, zero, suc, ◌-◌, cond, List, [], ◌∷◌, map, eqb, pos, get_or, take, drop, Option, Some, None}
use Rattle.encode.specs.declared.Kind.{Kind}
use Rattle.plain.specs.Rows.{Row, null, int, bytes}
use Rattle.plain.specs.Plain.{places}
use Rattle.format.specs.declared.Column.{Column}
use Rattle.block.specs.declared.Reader.{Reader}
use Rattle.format.specs.Blocks.{column_of}
use Rattle.block.specs.Reading.{is_bytes, Areas, Batch, read}

-- how many rows to pass over, how many to give at most, and the areas, which are lent anew at each call
pub data Call : Type 0 where
  reading : ℕ → ℕ → Areas → Call

-- so many rows passed over and these handed out, or a refusal
pub data Answer : Type 0 where
  gave : ℕ → List Row → Answer
  refused : ℕ → Answer

-- row i as the areas hold it after a read
unfoldable pub start_in : List ℕ → ℕ → ℕ
start_in ends zero = 0
start_in ends (suc i) = get_or ends i 0

unfoldable pub handed_row : Kind → Areas → ℕ → Row
handed_row k a i =
    cond (eqb (get_or a.flags i 0) 0) null
    (cond (is_bytes k)
    (bytes (take (get_or a.ends i 0 - start_in a.ends i) (drop (start_in a.ends i) a.bytes)))
    (int (get_or a.values i (pos 0))))

unfoldable pub handed : Option Column → ℕ → Areas → List Row
handed None n a = []
handed (Some c) n a = map (handed_row c.kind a) (places n 0)

abbrev pub column_in : Reader → Option Column
column_in r = column_of r.kind r.encoding r.width

-- what one call answers, and the reader after it
unfoldable pub read_answer : Option Column → ℕ → Batch → Answer
read_answer c skip g = cond (eqb g.answer.number 0) (gave skip (handed c g.answer.rows g.areas)) (refused g.answer.number)

unfoldable pub answer_to : Reader → List ℕ → Call → Answer
answer_to r b (reading skip size a) = read_answer (column_in r) skip (read r b skip size a)

unfoldable pub after : Reader → List ℕ → Call → Reader
after r b (reading skip size a) = (read r b skip size a).answer.reader

unfoldable pub play : Reader → List ℕ → List Call → List Answer
play r b [] = []
play r b (c ∷ cs) = answer_to r b c ∷ play (after r b c) b cs

-- from the opening on
unfoldable pub play_opened : Result Reader ℕ → List ℕ → List Call → List Answer
play_opened (Ok r) b cs = play r b cs
play_opened (Err e) b cs = refused e ∷ []
