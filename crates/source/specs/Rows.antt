-- For the code, which serves every encoding from three parts of a block: the counts of its runs, its marks (none, a bit a row, a key a run) and its
-- items. Assumes nothing.
use Rattle.std.specs.Prelude.{ℕ, suc, ◌+◌, ◌*◌, ◌≤◌, ◌<◌, ◌≡◌, Bool, true, false, cond, ◌&&◌, List, [], ◌∷◌, ltb, leb, eqb, ℤ, length, Option, Some, None}
use Rattle.limits.specs.Limits.{MOST_ITEMS, MOST_BYTES, MOST_GIVEN}
use Rattle.encode.specs.declared.Kind.{Kind}
use Rattle.encode.specs.declared.Kind.TheVariants.{Fixed, Char, Blob}
use Rattle.plain.specs.Rows.{Row, int_in, bytes_in}
use Rattle.plain.specs.Plain.{all_of, least_bytes}
use Rattle.nullable.specs.Nullable.{bit_at, presence}
use Rattle.rle.specs.declared.Spot.{Spot}
use Rattle.rle.specs.declared.Piece.{Piece}
use Rattle.rle.specs.Stepping.{Steps, stuck, rows}
use Rattle.rle.specs.Pieces.{piece_in, steps_in, Fine, step_runs}
use Rattle.dict.specs.Dictionary.{slot_at, entry_row, entry_good}
use Rattle.source.specs.declared.Marks.{Marks}
use Rattle.source.specs.declared.Marks.TheVariants.{Bare, Bits, Keys}
use Rattle.source.specs.declared.Source.{Source}
use Rattle.source.specs.declared.Look.{Look}
use Rattle.source.specs.declared.Weighed.{Weighed}

-- ---- the row of place i: an item or a run
-- which item it shows, from 1 on; 0 is null
unfoldable pub shown_by : Marks → List ℕ → ℕ → ℕ
shown_by Bare marks i = suc i
shown_by Bits marks i = cond (eqb (bit_at marks i) 0) 0 (suc i)
shown_by Keys marks i = slot_at marks i

-- which item is looked at: under a null bit too
unfoldable pub seen_by : Marks → List ℕ → ℕ → ℕ
seen_by Bare marks i = suc i
seen_by Bits marks i = suc i
seen_by Keys marks i = slot_at marks i

-- how many places there are
unfoldable pub most_by : Marks → ℕ → ℕ → ℕ
most_by Bare items runs = items
most_by Bits items runs = items
most_by Keys items runs = runs

unfoldable pub row_by : Source → List ℕ → List ℕ → ℕ → Row
row_by s marks items i = entry_row s.kind s.items items (shown_by s.marks marks i)

-- its bytes, and those of an item that is counted from 1 on: none of a null
unfoldable pub text_of : Kind → ℕ → List ℕ → ℕ → List ℕ
text_of k n items slot = bytes_in (entry_row k n items slot)

unfoldable pub text_by : Source → List ℕ → List ℕ → ℕ → List ℕ
text_by s marks items i = bytes_in (row_by s marks items i)

unfoldable pub size_by : Source → List ℕ → List ℕ → ℕ → ℕ
size_by s marks items i = length (text_by s marks items i)

-- its value, and that of an item: 0 of a null
unfoldable pub int_of : Kind → ℕ → List ℕ → ℕ → ℤ
int_of k n items slot = int_in (entry_row k n items slot)

unfoldable pub int_by : Source → List ℕ → List ℕ → ℕ → ℤ
int_by s marks items i = int_in (row_by s marks items i)

unfoldable pub flag_by : Source → List ℕ → List ℕ → ℕ → ℕ
flag_by s marks items i = presence (row_by s marks items i)

unfoldable pub good_by : Source → List ℕ → List ℕ → ℕ → Bool
good_by s marks items i =
    ltb i (most_by s.marks s.items s.runs) && entry_good s.kind s.items items (seen_by s.marks marks i)

-- place i is there, and so is the item that it looks at
unfoldable pub sees_by : Source → List ℕ → ℕ → Bool
sees_by s marks i = ltb i (most_by s.marks s.items s.runs) && leb (seen_by s.marks marks i) s.items

-- the first look at some rows of place i, and at their item; at none, where there are no rows
abbrev pub look : ℕ → ℕ → Spot → Look
look seen k t = record { seen = seen; rows = k; next = t }

unfoldable pub look_by : Source → List ℕ → ℕ → Option Piece → Option Look
look_by s marks i None = None
look_by s marks i (Some p) =
    cond (eqb p.rows 0) (Some (look 0 p.rows p.next))
    (cond (sees_by s marks i) (Some (look (seen_by s.marks marks i) p.rows p.next)) None)

-- the parts are long enough for their items, bits and keys
unfoldable pub MarkBytes : Marks → ℕ → ℕ → ℕ → Type 0
MarkBytes Bare items runs n = Unit
MarkBytes Bits items runs n = items ≤ 8 * n
MarkBytes Keys items runs n = 4 * runs ≤ n

pub record Ready (s : Source) (marks items : List ℕ) : Type 0 where
  pub few : s.items ≤ MOST_ITEMS
  pub short : s.runs ≤ MOST_ITEMS
  pub block : length items ≤ MOST_BYTES
  pub whole : least_bytes s.kind s.items ≤ length items
  pub marked : MarkBytes s.marks s.items s.runs (length marks)

-- a place from which n rows can be read: rows that are not coded by runs are each an item
unfoldable pub StartsBy : Bool → ℕ → ℕ → ℕ → Type 0
StartsBy true run runs n = run ≤ runs
StartsBy false run runs n = run + n ≤ MOST_ITEMS

abbrev pub Starts : Source → Spot → ℕ → Type 0
Starts s from n = StartsBy s.coded from.run s.runs n

-- some rows of the next run, and the next n rows
abbrev pub piece_of : Source → List ℕ → Spot → ℕ → Option Piece
piece_of s counts at left = piece_in s.coded s.runs counts at left

abbrev pub steps_of : Source → List ℕ → ℕ → Spot → Steps
steps_of s counts n from = steps_in s.coded s.runs counts n from

-- ---- the weight of some rows: their bytes, or one more than a read can give for all that are more
unfoldable pub capped : ℕ → ℕ
capped t = cond (ltb (MOST_GIVEN + 1) t) (MOST_GIVEN + 1) t

unfoldable pub sum_of : (ℕ → ℕ) → List ℕ → ℕ
sum_of f [] = 0
sum_of f (i ∷ is) = f i + sum_of f is

-- an item that is looked at, counted from 1 on: its bytes, if it is good
unfoldable pub weight_of : Kind → ℕ → List ℕ → ℕ → Option ℕ
weight_of k n items slot = cond (entry_good k n items slot) (Some (length (text_of k n items slot))) None

abbrev pub weighed : ℕ → Spot → Weighed
weighed bytes t = record { bytes = bytes; next = t }

unfoldable pub weighed_by : (ℕ → Bool) → (ℕ → ℕ) → Steps → Option Weighed
weighed_by p f stuck = None
weighed_by p f (rows is t) = cond (all_of p is) (Some (weighed (capped (sum_of f is)) t)) None

-- ---- writing wants the rows to be there and good, and room for them
-- some rows of run i
unfoldable pub Good : (ℕ → Bool) → ℕ → Option Piece → Type 0
Good good i None = ⊥
Good good i (Some p) = 0 < p.rows → good i ≡ true

pub record Writes (good : ℕ → Bool) (steps : Steps) (n room : ℕ) : Type 0 where
  pub fine : Fine steps
  pub right : all_of good (step_runs steps) ≡ true
  pub rows : n ≤ room

-- and bytes are written of char, blob and string only
unfoldable pub Texts : Kind → Type 0
Texts (Fixed p) = ⊥
Texts (Char w) = Unit
Texts (Blob text) = Unit
