-- For the code: what writing the next rows into lent areas asks, and what it comes to. Assumes nothing.
use Rattle.std.specs.Prelude.{ℕ, ◌≤◌, Bool, true, false, cond, List, [], map, ℤ, Result, Ok, Err}
use Rattle.limits.specs.Refusals.{ROOM, DISAGREE}
use Rattle.encode.specs.declared.Kind.{Kind}
use Rattle.plain.specs.Rows.{Row}
use Rattle.plain.specs.Plain.{all_of}
use Rattle.rle.specs.declared.Spot.{Spot}
use Rattle.rle.specs.Stepping.{Steps, stuck, rows}
use Rattle.anatomy.specs.declared.Parts.{Parts}
use Rattle.part_rows.specs.PartRows.{steps_by, row_in, good_in, weight_given}
use Rattle.item_rows.specs.Alone.{Alone}
use Rattle.fill.specs.declared.Filled.{Filled}
use Rattle.fill.specs.Areas.{Areas, areas, short, filled_in, given_bytes}

-- ---- what writing them asks
-- room for the next n rows of char that are an item each, with no marks
pub record Roomy (p : Parts) (from : Spot) (b : List ℕ) (n w flags ends bytes : ℕ) : Type 0 where
  pub alone : Alone p.source w
  pub flagged : n ≤ flags
  pub ended : n ≤ ends
  pub held : weight_given p from b n ≤ bytes

-- ---- what writing them comes to: the answer, and what the areas then hold
pub record Filling : Type 0 where
  pub answer : Result Filled ℕ
  pub areas : Areas

abbrev pub filled : ℕ → Spot → Filled
filled bytes t = record { bytes = bytes; next = t }

abbrev pub refused_filling : ℕ → Areas → Filling
refused_filling e a = record { answer = Err e; areas = a }

-- rows that are not coded by runs leave the place in the runs alone
unfoldable pub next_by : Bool → Spot → Spot → Spot
next_by true from t = t
next_by false from t = from

unfoldable pub write_rows : Kind → List Row → Spot → Areas → Filling
write_rows k rs t a =
    cond (short k rs a) (refused_filling ROOM a)
    (record { answer = Ok (filled (given_bytes k rs) t); areas = filled_in k rs a })

unfoldable pub filling_by : Parts → Spot → List ℕ → Areas → Steps → Filling
filling_by p from b a stuck = refused_filling DISAGREE a
filling_by p from b a (rows is t) =
    cond (all_of (good_in p b) is) (write_rows p.source.kind (map (row_in p b) is) (next_by p.source.coded from t) a)
    (refused_filling DISAGREE a)

abbrev pub filling : Parts → Spot → List ℕ → ℕ → Areas → Filling
filling p from b n a = filling_by p from b a (steps_by p from b n)

-- into the areas of a fixed kind, and into those of char, blob and string
abbrev pub fixed_filling : Parts → Spot → List ℕ → ℕ → List ℤ → List ℕ → Filling
fixed_filling p from b n vs fs = filling p from b n (areas vs fs [] [])

abbrev pub text_filling : Parts → Spot → List ℕ → ℕ → List ℕ → List ℕ → List ℕ → Filling
text_filling p from b n fs es bs = filling p from b n (areas [] fs es bs)
