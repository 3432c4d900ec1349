-- For the code: the first n rows of a column, from its parts, and what walking them asks. Assumes nothing.
use Rattle.std.specs.Prelude.{ℕ, ◌≤◌, ◌<◌, ◌^◌, Bool, true, false, not, List, map, ◌≡◌, length, get_or, Option, Some, None}
use Rattle.encode.specs.declared.Primitive.{Primitive}
use Rattle.encode.specs.declared.Kind.{Kind}
use Rattle.encode.specs.declared.Kind.TheVariants.{Fixed, Char, Blob}
use Rattle.plain.specs.Rows.{Row, int}
use Rattle.plain.specs.Plain.{places, fixed_at}
use Rattle.rle.specs.declared.Spot.{Spot}
use Rattle.rle.specs.Stepping.{spot}
use Rattle.rle.specs.Pieces.{step_runs}
use Rattle.ranges.specs.declared.Mark.{Mark}
use Rattle.ranges.specs.Recording.{Recorded}
use Rattle.source.specs.declared.Marks.{Marks}
use Rattle.source.specs.declared.Marks.TheVariants.{Bare, Bits, Keys}
use Rattle.source.specs.declared.Source.{Source}
use Rattle.source.specs.Rows.{row_by, good_by, Ready, Starts, steps_of, Writes}

abbrev pub first : Spot
first = spot 0 0 0

abbrev pub rows_walked : Source → List ℕ → List ℕ → List ℕ → ℕ → List Row
rows_walked s counts marks items n = map (row_by s marks items) (step_runs (steps_of s counts n first))

-- the first n items of a plain column of a fixed kind
abbrev pub items_walked : Primitive → List ℕ → ℕ → List Row
items_walked p items n = map (λ (i : ℕ). int (fixed_at p items i)) (places n 0)

-- the first i places by a test: what it found of each, recorded where it found them unequal
pub record Tested (Found : ℕ → Bool → Type 0) (firsts₀ lasts₀ firsts lasts : List ℕ) (m : Mark) (i : ℕ) : Type 0 where
  pub sames : List Bool
  pub long : length sames ≡ i
  pub found : (k : ℕ) → k < i → Found k (get_or sames k true)
  pub recorded : Recorded (map not sames) m firsts₀ lasts₀ firsts lasts

-- how a column is walked: item by item of a fixed kind, or run by run
unfoldable pub way_by : Kind → Option Primitive
way_by (Fixed p) = Some p
way_by (Char w) = None
way_by (Blob text) = None

unfoldable pub way_in : Bool → Marks → Kind → Option Primitive
way_in true m k = None
way_in false Bits k = None
way_in false Keys k = None
way_in false Bare k = way_by k

-- they are there and good
pub record Walks (s : Source) (counts marks items : List ℕ) (n : ℕ) : Type 0 where
  pub ready : Ready s marks items
  pub starts : Starts s first n
  pub writes : Writes (good_by s marks items) (steps_of s counts n first) n n
  pub inside : s.coded ≡ false → n ≤ s.items
  pub short : n < 2 ^ 64
