-- For the code, which goes by runs and by groups of them: the head taken apart, a walk and rows passed over in parts, and some rows of one run. Assumes
-- nothing.
use Rattle.std.specs.Prelude.{ℕ, zero, suc, Option, Some, None, Result, Ok, Err, ◌+◌, ◌-◌, ◌*◌, ◌≤◌, ◌<◌, List, [], ◌∷◌, ◌≡◌, Bool, cond, ltb, eqb, length, drop}
use Rattle.limits.specs.Limits.{MOST_ITEMS}
use Rattle.limits.specs.Refusals.{COUNTS, CUT, LIMIT, SUM}
use Rattle.plain.specs.Rules.{◌if◌, first_of}
use Rattle.plain.specs.Plain.{places}
use Rattle.varint.specs.declared.Count.{Count}
use Rattle.rle.specs.declared.Spot.{Spot}
use Rattle.rle.specs.declared.First.{First}
use Rattle.rle.specs.declared.Gone.{Gone}
use Rattle.rle.specs.declared.RunHead.{RunHead}
use Rattle.rle.specs.declared.Rest.{Rest}
use Rattle.rle.specs.declared.Piece.{Piece}
use Rattle.rle.specs.RunLength.{runs_in, counts_length, counts_part, inner_part, plus, walked, walk_number}
use Rattle.rle.specs.Stepping.{spot, Steps, stuck, rows, here, steps_from}

-- ---- what the calls answer, by its parts
abbrev pub run_head : ℕ → ℕ → RunHead
run_head runs counts = record { runs = runs; counts = counts }

abbrev pub first_counts : ℕ → ℕ → First
first_counts sum len = record { rows = sum; len = len }

abbrev pub run_rest : ℕ → ℕ → Rest
run_rest free len = record { free = free; len = len }

abbrev pub run_piece : ℕ → Spot → Piece
run_piece n next = record { rows = n; next = next }

abbrev pub gone : Spot → ℕ → Gone
gone s left = record { spot = s; left = left }

-- ---- the head
unfoldable pub head_by : ℕ → ℕ → ℕ → Result (Option RunHead) ℕ
head_by zero runs counts = Ok (Some (run_head runs counts))
head_by (suc e) runs counts = Err (suc e)

-- all rules of a run-length block but the inner ones; None is no block at all
unfoldable pub head_found : ℕ → List ℕ → Result (Option RunHead) ℕ
head_found n b =
    cond (eqb (length b) 0) (cond (eqb n 0) (Ok None) (Err SUM))
    (head_by
    (first_of (
    CUT if ltb (length b) 8
    ∷ LIMIT if ltb MOST_ITEMS (runs_in b)
    ∷ COUNTS if eqb (runs_in b) 0
    ∷ CUT if ltb (length b) (8 + counts_length b)
    ∷ walk_number n (walked (runs_in b) (counts_part (counts_length b) b))
    ∷ []))
    (runs_in b)
    (counts_length b))

-- the number that the inner rules give where the head is sound
unfoldable pub number_by : (ℕ → List ℕ → ℕ) → List ℕ → Result (Option RunHead) ℕ → ℕ
number_by inner b (Ok None) = 0
number_by inner b (Ok (Some h)) = inner h.runs (inner_part h.counts b)
number_by inner b (Err e) = e

-- ---- the walk in parts
-- the walk over more counts, behind the first ones
unfoldable pub walked_on : Result First ℕ → (ℕ → Result ℕ ℕ) → Result ℕ ℕ
walked_on (Ok f) behind = plus f.rows (behind f.len)
walked_on (Err e) behind = Err e

-- the first counts lie within the list, and each byte of them adds less than 2^32
abbrev pub WithinCounts : List ℕ → Result First ℕ → Type 0
WithinCounts s (Ok f) = (f.len ≤ length s) × (f.rows ≤ 4294967296 * f.len)
WithinCounts s (Err e) = Unit

-- what the first n counts come to
pub record Walks (s : List ℕ) (n : ℕ) (r : Result First ℕ) : Type 0 where
  pub whole : (k : ℕ) → walked (n + k) s ≡ walked_on r (λ len. walked k (drop len s))
  pub within : WithinCounts s r

-- ---- pieces
-- the rows still in a run, and the bytes of its count
unfoldable pub rest_of : Option Count → ℕ → Option Rest
rest_of None taken = None
rest_of (Some c) taken = cond (eqb c.value 0) None (cond (ltb c.value taken) None (Some (run_rest (c.value - taken) c.len)))

unfoldable pub piece_by : Option Rest → Spot → ℕ → Option Piece
piece_by None s left = None
piece_by (Some r) s left =
    cond (ltb left r.free) (Some (run_piece left (spot s.run s.at (s.taken + left)))) (Some (run_piece r.free (spot (s.run + 1) (s.at + r.len) 0)))

-- rows that are not coded by runs are each a run of their own
unfoldable pub piece_in : Bool → ℕ → List ℕ → Spot → ℕ → Option Piece
piece_in coded runs counts s left =
    cond coded (piece_by (rest_of (here runs counts s) s.taken) s left) (Some (run_piece 1 (spot (s.run + 1) s.at s.taken)))

unfoldable pub steps_in : Bool → ℕ → List ℕ → ℕ → Spot → Steps
steps_in coded runs counts n s =
    cond coded (steps_from runs counts n s) (rows (places n s.run) (spot (s.run + n) s.at s.taken))

-- ---- where reading stands after some rows
unfoldable pub reached : Steps → Option Spot
reached stuck = None
reached (rows is t) = Some t

-- n rows passed over in parts: from a place on, the rows that are left lead where all do
abbrev pub Leads : ℕ → List ℕ → Spot → ℕ → Option Gone → Type 0
Leads runs counts from n None = None ≡ reached (steps_from runs counts n from)
Leads runs counts from n (Some g) = reached (steps_from runs counts n from) ≡ reached (steps_from runs counts g.left g.spot)

-- ... which is no place before; where rows are left it is the run `stop`, of which none is taken
pub record Onward (stop : ℕ) (from : Spot) (n : ℕ) (s : Spot) (left : ℕ) : Type 0 where
  pub ahead : from.run ≤ s.run
  pub few : left ≤ n
  pub inside : from.run ≤ stop → s.run ≤ stop
  pub stopped : 0 < left → stop ≤ s.run
  pub fresh : 0 < left → s.taken ≡ 0

abbrev pub OnwardTo : ℕ → Spot → ℕ → Option Gone → Type 0
OnwardTo stop from n None = Unit
OnwardTo stop from n (Some g) = Onward stop from n g.spot g.left

-- what passing n rows up to the run `stop` comes to, however many runs there are behind it
pub record Goes (counts : List ℕ) (stop : ℕ) (from : Spot) (n : ℕ) (r : Option Gone) : Type 0 where
  pub leads : (runs : ℕ) → stop ≤ runs → Leads runs counts from n r
  pub onward : OnwardTo stop from n r

-- there are rows
unfoldable pub Fine : Steps → Type 0
Fine stuck = ⊥
Fine (rows is t) = Unit

-- the runs that they lie in
unfoldable pub step_runs : Steps → List ℕ
step_runs stuck = []
step_runs (rows is t) = is
