-- For the code: the same from a block's parts, which are good. Assumes nothing.
use Rattle.std.specs.Prelude.{ℕ, ◌≤◌, List, map, ◌≡◌, length}
use Rattle.limits.specs.Limits.{MOST_BYTES}
use Rattle.limits.specs.Refusals.{ROOM}
use Rattle.encode.specs.declared.Kind.{Kind}
use Rattle.plain.specs.Rows.{Row}
use Rattle.plain.specs.Rules.{◌if◌}
use Rattle.plain.specs.Plain.{plain_of}
use Rattle.dict.specs.Dictionary.{entries_of, dictionary_of}
use Rattle.ranges.specs.Ranges.{Range, ranges_of}
use Rattle.repaired.specs.Repaired.{lost_at, runs_walked, rows_repaired, none_yet, Keyed, Entered, Ahead}
use Rattle.used.specs.Used.{plain_rows}
use Rattle.salvaging.specs.Salvaging.{Salvage, salvage_by, too_short}

-- the entries of some rows can be written as a plain block and looked up there
pub record Kept (k : Kind) (es : List Row) : Type 0 where
  pub good : Entered k (length es) (plain_of k es)
  pub read : plain_rows k (length es) (plain_of k es) ≡ es

pub record Mendable (k : Kind) (entries runs : ℕ) (counts keys items : List ℕ) (n : ℕ) : Type 0 where
  pub keyed : Keyed runs keys
  pub entered : Entered k entries items
  pub short : length items ≤ MOST_BYTES
  pub ahead : Ahead runs counts none_yet n
  pub small : length (dictionary_of k (rows_repaired k entries runs counts keys items n)) ≤ MOST_BYTES
  pub kept : Kept k (entries_of (rows_repaired k entries runs counts keys items n))

abbrev pub ranges_lost : ℕ → ℕ → List ℕ → List ℕ → ℕ → List Range
ranges_lost entries runs counts keys n = ranges_of (map (lost_at entries keys) (runs_walked runs counts n))

abbrev pub mended : Kind → ℕ → ℕ → List ℕ → List ℕ → List ℕ → ℕ → List ℕ → List ℕ → List ℕ → Salvage
mended k entries runs counts keys items n firsts lasts out =
    salvage_by (ROOM if too_short (length (dictionary_of k (rows_repaired k entries runs counts keys items n))) (length (ranges_lost entries runs counts keys n)) (length out) (length firsts) (length lasts))
    (dictionary_of k (rows_repaired k entries runs counts keys items n))
    (ranges_lost entries runs counts keys n)
    firsts lasts out
