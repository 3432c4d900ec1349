-- 02, (xiv): how far the estimate is from the finished length, of a list of rows; and what it is that a list meets a bound with equality.
-- Assumes nothing.
use Rattle.std.specs.Prelude.{ℕ, ◌+◌, ◌*◌, ◌≤◌, true, List, ◌≡◌, length}
use Rattle.encode.specs.declared.Kind.{Kind}
use Rattle.plain.specs.Rows.{Row}
use Rattle.format.specs.declared.Encoding.{Encoding}
use Rattle.format.specs.declared.Encoding.TheVariants.{Plain, Nullable, RunLength, RunLengthNullable, Dictionary}
use Rattle.format.specs.Blocks.{block_of}
use Rattle.format.specs.Sizes.{estimate_of, stored_items, accepted}

-- The bytes that a finished block has and its estimate leaves out, whatever the rows, in fours: one of the two numbers before the counts; the length
-- of the bitmap; the number of a dictionary's entries.
unfoldable pub beyond : Encoding → ℕ
beyond Plain = 0
beyond Nullable = 4
beyond RunLength = 4
beyond RunLengthNullable = 8
beyond Dictionary = 8

-- ---- the two right sides: "estimate + 4 + 3 per run" and "estimate + 4"; "over nullable both right sides grow by 4". Where rows are coded by runs
-- (`coded`, needs/specs/Needs), a dictionary's by runs of their keys, the stored items are the runs.
unfoldable pub most : Kind → Encoding → List Row → ℕ
most k e rows = estimate_of k e rows + beyond e + 3 * stored_items e rows

unfoldable pub least : Kind → Encoding → List Row → ℕ
least k e rows = estimate_of k e rows + beyond e

-- "finished length is at most" the one
abbrev pub AtMost : Kind → Encoding → List Row → Type 0
AtMost k e rows = length (block_of k e rows) ≤ most k e rows

-- "finished length plus the number of runs is at least" the other
abbrev pub AtLeast : Kind → Encoding → List Row → Type 0
AtLeast k e rows = least k e rows ≤ length (block_of k e rows) + stored_items e rows

-- "with at least one row"
abbrev pub SomeRows : List Row → Type 0
SomeRows rows = 1 ≤ length rows

-- where rows aren't stored in runs: the finished length itself
abbrev pub Exact : Kind → Encoding → List Row → Type 0
Exact k e rows = length (block_of k e rows) ≡ estimate_of k e rows + beyond e

-- ---- "a block that meets it with equality"
abbrev pub MeetsMost : Kind → Encoding → List Row → Type 0
MeetsMost k e rows = length (block_of k e rows) ≡ most k e rows

abbrev pub MeetsLeast : Kind → Encoding → List Row → Type 0
MeetsLeast k e rows = least k e rows ≡ length (block_of k e rows) + stored_items e rows

-- a list of rows, the bytes of its block, its estimate and the number of its runs
pub record Witness : Type 0 where
  pub rows : List Row
  pub block : List ℕ
  pub estimate : ℕ
  pub runs : ℕ

-- the rows are accepted, the figures are theirs, and with them a bound is met
pub record Met (Meets : Kind → Encoding → List Row → Type 0) (k : Kind) (e : Encoding) (w : Witness) : Type 0 where
  pub taken : accepted k e w.rows ≡ true
  pub built : block_of k e w.rows ≡ w.block
  pub estimated : estimate_of k e w.rows ≡ w.estimate
  pub counted : stored_items e w.rows ≡ w.runs
  pub equal : Meets k e w.rows
