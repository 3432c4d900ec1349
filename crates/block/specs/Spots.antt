-- For the code: what a read's tests come to before any field, the place in the runs from which reading goes on, and the reader after some rows. Assumes
-- nothing.
use Rattle.std.specs.Prelude.{Result, Ok, Err, ℕ, ◌-◌, Bool, true, false, cond, not, ◌||◌, ltb, eqb, List, Option, Some, None}
use Rattle.limits.specs.Refusals.{NO_ROWS, TOO_FAR, DISAGREE}
use Rattle.format.specs.declared.Column.{Column}
use Rattle.format.specs.Blocks.{column_of}
use Rattle.zeros.specs.Zeros.{zeros_in}
use Rattle.source.specs.declared.Marks.{Marks}
use Rattle.source.specs.declared.Marks.TheVariants.{Bare, Bits, Keys}
use Rattle.rle.specs.declared.Spot.{Spot}
use Rattle.rle.specs.Stepping.{spot}
use Rattle.block.specs.declared.Reader.{Reader}
use Rattle.block.specs.declared.Given.{Given}
use Rattle.block.specs.Reading.{moved, wrong, asks_nothing}

-- the tests before any field, on a block of so many bytes: the kind and the encoding, or a refusal
unfoldable pub tests_in : Option Column → Reader → ℕ → ℕ → Result Column ℕ
tests_in None r len skip = Err DISAGREE
tests_in (Some c) r len skip =
    cond (not (eqb len r.len) || wrong c.kind c.encoding r) (Err DISAGREE)
    (cond (ltb (r.rows - r.place) skip) (Err TOO_FAR) (Ok c))

unfoldable pub tests_of : Reader → ℕ → ℕ → ℕ → Result Column ℕ
tests_of r len skip size = cond (asks_nothing skip size) (Err NO_ROWS) (tests_in (column_of r.kind r.encoding r.width) r len skip)

-- of rows that are not coded by runs, the row is the run
unfoldable pub start_of : Bool → Reader → Spot
start_of true r = r.spot
start_of false r = spot r.place r.spot.at r.spot.taken

-- and they leave the place in the runs alone
unfoldable pub spot_by : Bool → Reader → Spot → Spot
spot_by true r t = t
spot_by false r t = r.spot

unfoldable pub moved_by : Bool → Reader → ℕ → Spot → Reader
moved_by coded r n t = moved r n (spot_by coded r t)

-- of rows with no marks none is null
unfoldable pub nulls_by : Marks → List ℕ → ℕ
nulls_by Bare flags = 0
nulls_by Bits flags = zeros_in flags
nulls_by Keys flags = zeros_in flags

-- a read's answer as a record: a refused read leaves the reader where it is
abbrev pub given_of : Reader → Result Given ℕ → Given
given_of r (Ok g) = g
given_of r (Err e) = record { number = e; rows = 0; bytes = 0; reader = r }
