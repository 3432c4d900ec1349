-- 01, "Building": any list of the builder's calls, from creation on; what is answered, and what ought to be, from the rows accepted so far alone. Assumes
-- nothing.
use Rattle.std.specs.Prelude.{ℕ, ◌+◌, ◌-◌, ◌*◌, ◌/◌, ◌≤◌, min, ◌≡◌, ◌⊎◌, Bool, true, cond, not, ◌||◌, List, [], ◌∷◌, ◌++◌, map, ltb, eqb, length, take, drop, replicate}
use Rattle.limits.specs.Limits.{MOST_COUNT}
use Rattle.limits.specs.Refusals.{ITEM, LIMIT, ROOM}
use Rattle.encode.specs.declared.Kind.{Kind}
use Rattle.plain.specs.Rows.{Row, fits}
use Rattle.plain.specs.Plain.{joined, places, item_of}
use Rattle.nullable.specs.Nullable.{bitmap_length, bit_at}
use Rattle.format.specs.declared.Encoding.{Encoding}
use Rattle.format.specs.Blocks.{block_of}
use Rattle.format.specs.Sizes.{within_limits, estimate_of, should_finish}
use Rattle.needs.specs.declared.Counted.{Counted}
use Rattle.needs.specs.declared.Room.{Room}
use Rattle.needs.specs.Needs.{coded, flagged, keyed, stored_by}
use Rattle.append.specs.Appending.{Lent, room_of}
use Rattle.builder.specs.declared.Builder.{Builder}
use Rattle.builder.specs.Building.{Append, appended_times}
use Rattle.builder.specs.Finishing.{Finish, finished, estimated, asked}
use Rattle.building_laws.specs.Built.{Given, row_in, stored_rows, stored_runs, end_slots, len_slots}

-- ---- the calls
-- a row n times, a room to write the block into, the estimated size, whether to finish before a next row
pub data Ask : Type 0 where
  append : ℕ → Given → Ask
  finish : List ℕ → Ask
  estimate : Ask
  should_finish_before : Given → Ask

-- a call, and the six areas as they are lent to it: other memory than before, if that suits the caller, and of other lengths. Estimate and should_finish
-- are lent none: with them these are the areas that the caller then has.
pub record Call : Type 0 where
  pub ask : Ask
  pub areas : Lent

-- the number; for finish the length and what the room then holds, for the others the size or whether to finish
pub data Answer : Type 0 where
  appends : ℕ → Answer
  finishes : ℕ → ℕ → List ℕ → Answer
  estimates : ℕ → ℕ → Answer
  asks : ℕ → Bool → Answer

unfoldable pub number_in : Answer → ℕ
number_in (appends n) = n
number_in (finishes n len out) = n
number_in (estimates n size) = n
number_in (asks n full) = n

-- the numbers that each call may have where state and lent memory agree; 9 is not among them
abbrev pub Allowed : Answer → Type 0
Allowed (appends n) = (n ≡ 0) ⊎ ((n ≡ ITEM) ⊎ ((n ≡ LIMIT) ⊎ (n ≡ ROOM)))
Allowed (finishes n len out) = (n ≡ 0) ⊎ (n ≡ ROOM)
Allowed (estimates n size) = n ≡ 0
Allowed (asks n full) = n ≡ 0

-- the builder and the areas after a call
pub record After : Type 0 where
  pub builder : Builder
  pub areas : Lent

-- ---- what is answered, and the builder that is handed back
unfoldable pub finish_answer : Finish → Answer
finish_answer f = finishes f.answer.number f.answer.len f.out

unfoldable pub answer_to : Builder → Lent → Ask → Answer
answer_to r a (append n g) = appends (appended_times r a n g.present g.value g.text).answer.number
answer_to r a (finish out) = finish_answer (finished r a out)
answer_to r a estimate = estimates (estimated r).number (estimated r).size
answer_to r a (should_finish_before g) = asks (asked r g.present (length g.text)).number (asked r g.present (length g.text)).full

abbrev pub after_append : Append → After
after_append x = record { builder = x.answer.builder; areas = x.areas }

unfoldable pub after : Builder → Lent → Ask → After
after r a (append n g) = after_append (appended_times r a n g.present g.value g.text)
after r a (finish out) = record { builder = (finished r a out).answer.builder; areas = a }
after r a estimate = record { builder = (estimated r).builder; areas = a }
after r a (should_finish_before g) = record { builder = (asked r g.present (length g.text)).builder; areas = a }

-- one call after the other, each with the builder that the one before handed back
unfoldable pub answers : Builder → List Call → List Answer
answers r [] = []
answers r (c ∷ cs) = answer_to r c.areas c.ask ∷ answers (after r c.areas c.ask).builder cs

-- ---- what the areas of a call must hold: what the call before left in them, in the slots of the recorded items, runs and entries
pub record Carries (k : Kind) (e : Encoding) (c : Counted) (left lent : Lent) : Type 0 where
  -- the item bytes stored
  pub items : take c.bytes lent.items ≡ take c.bytes left.items
  -- an end a blob item
  pub ends : take (end_slots k (stored_by e c)) lent.ends ≡ take (end_slots k (stored_by e c)) left.ends
  -- in encodings 1 and 3 a bit an item; the other bits of the last byte are anything
  pub flags_long : flagged e ≡ true → bitmap_length (stored_by e c) ≤ length lent.flags
  pub flags : flagged e ≡ true → map (bit_at lent.flags) (places (stored_by e c) 0) ≡ map (bit_at left.flags) (places (stored_by e c) 0)
  -- a count a run, and in encoding 4 a key a run
  pub counts : take c.runs lent.counts ≡ take c.runs left.counts
  pub keys : keyed e ≡ true → take c.runs lent.keys ≡ take c.runs left.keys
  -- a length a char item
  pub lens : take (len_slots k (stored_by e c)) lent.lens ≡ take (len_slots k (stored_by e c)) left.lens

abbrev pub CarriedOn : Kind → Encoding → Builder → Lent → List Call → Type 0
CarriedOn k e r left [] = Unit
CarriedOn k e r left (c ∷ cs) =
    Carries k e r.counted left c.areas × CarriedOn k e (after r c.areas c.ask).builder (after r c.areas c.ask).areas cs

-- the first call after creation finds nothing recorded, and its areas may hold anything
abbrev pub Carried : Kind → Encoding → Builder → List Call → Type 0
Carried k e r [] = Unit
Carried k e r (c ∷ cs) = CarriedOn k e (after r c.areas c.ask).builder (after r c.areas c.ask).areas cs

-- ---- what ought to be answered
-- the need of a list: the item bytes stored; one u32 slot a blob item; one byte per eight flags, rounded up, in encodings 1 and 3; one slot a run; one i32
-- slot a key run; one length byte a stored char item
unfoldable pub need_of : Kind → Encoding → List Row → Room
need_of k e rows = record {
  items = length (joined (item_of k) (stored_rows e rows));
  ends = end_slots k (length (stored_rows e rows));
  flags = cond (flagged e) (bitmap_length (length (stored_rows e rows))) 0;
  counts = length (stored_runs e rows);
  keys = cond (keyed e) (length (stored_runs e rows)) 0;
  lens = len_slots k (length (stored_rows e rows));
}

-- one lent area is below the need
unfoldable pub below : Room → Room → Bool
below need room =
    ltb room.items need.items
    || ltb room.ends need.ends
    || ltb room.flags need.flags
    || ltb room.counts need.counts
    || ltb room.keys need.keys
    || ltb room.lens need.lens

-- 2 if the row doesn't fit, else 3 if the list with n of it behind passes a limit, else 4 if one lent area is below the need of that list, else 0
unfoldable pub append_number : Kind → Encoding → List Row → ℕ → Row → Room → ℕ
append_number k e rows n x room =
    cond (not (fits k x)) ITEM
    (cond (not (within_limits k e (rows ++ replicate n x))) LIMIT
    (cond (below (need_of k e (rows ++ replicate n x)) room) ROOM 0))

-- what finish gives of a block: 4 if the room is shorter than the block; else the block's length, and from the room's start on the block, with what lies behind it as it was
unfoldable pub block_due : List ℕ → List ℕ → Answer
block_due block out =
    cond (ltb (length out) (length block)) (finishes ROOM 0 out) (finishes 0 (length block) (block ++ drop (length block) out))

-- of the rows accepted so far; finish gives their block
unfoldable pub due : Kind → Encoding → ℕ → ℕ → List Row → Lent → Ask → Answer
due k e target key rows a (append n g) = appends (append_number k e rows n (row_in k g) (room_of a))
due k e target key rows a (finish out) = block_due (block_of k e rows) out
due k e target key rows a estimate = estimates 0 (estimate_of k e rows)
due k e target key rows a (should_finish_before g) = asks 0 (should_finish k e target key rows (row_in k g))

-- the rows accepted after a call: an append that is 0 adds its row n times, and nothing else changes them
unfoldable pub accepted_by : Kind → Encoding → List Row → Lent → Ask → List Row
accepted_by k e rows a (append n g) = cond (eqb (append_number k e rows n (row_in k g) (room_of a)) 0) (rows ++ replicate n (row_in k g)) rows
accepted_by k e rows a (finish out) = rows
accepted_by k e rows a estimate = rows
accepted_by k e rows a (should_finish_before g) = rows

unfoldable pub expected : Kind → Encoding → ℕ → ℕ → List Row → List Call → List Answer
expected k e target key rows [] = []
expected k e target key rows (c ∷ cs) = due k e target key rows c.areas c.ask ∷ expected k e target key (accepted_by k e rows c.areas c.ask) cs

-- ---- after all the calls: the rows accepted, the builder handed back and the areas left
unfoldable pub accepted_in : Kind → Encoding → List Row → List Call → List Row
accepted_in k e rows [] = rows
accepted_in k e rows (c ∷ cs) = accepted_in k e (accepted_by k e rows c.areas c.ask) cs

unfoldable pub after_all : Builder → Lent → List Call → After
after_all r a [] = record { builder = r; areas = a }
after_all r a (c ∷ cs) = after_all (after r c.areas c.ask).builder (after r c.areas c.ask).areas cs

-- ---- memory that is lengthened as it is needed
-- each area at its end, by anything
unfoldable pub longer : Lent → Lent → Lent
longer a more = record {
  items = a.items ++ more.items;
  ends = a.ends ++ more.ends;
  flags = a.flags ++ more.flags;
  counts = a.counts ++ more.counts;
  keys = a.keys ++ more.keys;
  lens = a.lens ++ more.lens;
}

-- n equal rows are at most so many runs more: one for each 4,294,967,295 of them, rounded up
unfoldable pub runs_more : ℕ → ℕ
runs_more n = (n + (MOST_COUNT - 1)) / MOST_COUNT

-- and at most so many stored items more: one a row, one a run, or one entry
unfoldable pub items_more : Encoding → ℕ → ℕ
items_more e n = cond (keyed e) (min n 1) (cond (coded e) (runs_more n) n)

-- slots for so many more of each than the record counts, and len bytes for each of those items: what a caller can tell without the rows
pub record SlotsFor (k : Kind) (e : Encoding) (c : Counted) (n len : ℕ) (a : Lent) : Type 0 where
  pub items : c.bytes + items_more e n * len ≤ length a.items
  pub ends : end_slots k (stored_by e c + items_more e n) ≤ length a.ends
  pub flags : flagged e ≡ true → bitmap_length (stored_by e c + items_more e n) ≤ length a.flags
  pub counts : coded e ≡ true → c.runs + runs_more n ≤ length a.counts
  pub keys : keyed e ≡ true → c.runs + runs_more n ≤ length a.keys
  pub lens : len_slots k (stored_by e c + items_more e n) ≤ length a.lens

-- each call is lent the areas that the call before left, as they are or lengthened
abbrev pub SameOrLonger : Lent → Lent → Type 0
SameOrLonger left lent = (lent ≡ left) ⊎ ((more : Lent) × (lent ≡ longer left more))

abbrev pub LengthenedOn : Builder → Lent → List Call → Type 0
LengthenedOn r left [] = Unit
LengthenedOn r left (c ∷ cs) =
    SameOrLonger left c.areas × LengthenedOn (after r c.areas c.ask).builder (after r c.areas c.ask).areas cs

-- the first call is lent anything
abbrev pub Lengthened : Builder → List Call → Type 0
Lengthened r [] = Unit
Lengthened r (c ∷ cs) = LengthenedOn (after r c.areas c.ask).builder (after r c.areas c.ask).areas cs

-- no memory
abbrev pub no_areas : Lent
no_areas = record { items = []; ends = []; flags = []; counts = []; keys = []; lens = [] }

-- the same append twice: on some areas, and on those lengthened
abbrev pub tried_twice : ℕ → Given → Lent → Lent → List Call
tried_twice n g a more = record { ask = append n g; areas = a } ∷ record { ask = append n g; areas = longer a more } ∷ []
