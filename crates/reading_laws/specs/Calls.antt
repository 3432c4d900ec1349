-- Any list of calls on one sound block: what ought to be answered, from the rows of the block alone. Assumes nothing.
use Rattle.std.specs.Prelude.{ℕ, ◌+◌, true, cond, List, [], ◌∷◌, ◌++◌, ◌≡◌, ltb, length, take, drop}
use Rattle.limits.specs.Refusals.{ROOM, NO_ROWS, TOO_FAR}
use Rattle.encode.specs.declared.Kind.{Kind}
use Rattle.utf8.specs.Utf8.{is_text}
use Rattle.plain.specs.Rows.{Row, null, int, bytes}
use Rattle.block.specs.declared.Reader.{Reader}
use Rattle.block.specs.Reading.{short, asks_nothing, read}
use Rattle.block.specs.Calls.{Call, reading, Answer, gave, refused, after}

-- The answer to one call, where these rows of a kind are left. A read that asks for nothing is refused as 6, one that is to pass over more rows than
-- are left as 7, and one that is lent too little room for all that it would give as 4.
unfoldable pub due : Kind → List Row → Call → Answer
due k left (reading skip size a) =
    cond (asks_nothing skip size) (refused NO_ROWS)
    (cond (ltb (length left) skip) (refused TOO_FAR)
    (cond (short k (take size (drop skip left)) a) (refused ROOM) (gave skip (take size (drop skip left)))))

-- how many rows an answer goes past: none if it is a refusal
unfoldable pub moves : Answer → ℕ
moves (gave skip rs) = skip + length rs
moves (refused e) = 0

-- the answers to calls one after the other
unfoldable pub expected : Kind → List Row → List Call → List Answer
expected k left [] = []
expected k left (c ∷ cs) = due k left c ∷ expected k (drop (moves (due k left c)) left) cs

-- ---- what answers come to
-- the rows of all reads, one after the other
unfoldable pub handed_out : List Answer → List Row
handed_out [] = []
handed_out (gave skip rs ∷ as') = rs ++ handed_out as'
handed_out (refused e ∷ as') = handed_out as'

-- how many rows were passed over
unfoldable pub passed_over : List Answer → ℕ
passed_over [] = 0
passed_over (gave skip rs ∷ as') = skip + passed_over as'
passed_over (refused e ∷ as') = passed_over as'

-- of some rows, in order, those that the answers do not pass over, up to where they come
unfoldable pub unskipped : List Row → List Answer → List Row
unskipped all [] = []
unskipped all (gave skip rs ∷ as') = take (length rs) (drop skip all) ++ unskipped (drop (skip + length rs) all) as'
unskipped all (refused e ∷ as') = unskipped all as'

-- the reader after calls
unfoldable pub after_all : Reader → List ℕ → List Call → Reader
after_all r b [] = r
after_all r b (c ∷ cs) = after_all (after r b c) b cs

-- the flags of all rows given, as the areas held them after each read
unfoldable pub flags_got : Reader → List ℕ → List Call → List ℕ
flags_got r b [] = []
flags_got r b (reading skip size a ∷ cs) =
    take (read r b skip size a).answer.rows (read r b skip size a).areas.flags ++ flags_got (after r b (reading skip size a)) b cs

-- ---- what char and string hand out
abbrev pub NullOrText : Row → Type 0
NullOrText null = Unit
NullOrText (int v) = ⊥
NullOrText (bytes bs) = is_text bs ≡ true
