-- 02 (xii): the block that our builder gives for the repaired rows of a dictionary block, and the ranges of rows that changed, as one call. Assumes nothing.
use Rattle.std.specs.Prelude.{ℕ, zero, suc, Bool, ◌||◌, List, [], ◌∷◌, map, ltb, length, Option, Some, None}
use Rattle.limits.specs.Refusals.{ROOM}
use Rattle.area.specs.Area.{over}
use Rattle.plain.specs.Rules.{◌if◌, first_of}
use Rattle.format.specs.declared.Encoding.TheVariants.{Dictionary}
use Rattle.format.specs.declared.Column.{Column}
use Rattle.format.specs.Blocks.{column_of, block_of}
use Rattle.descriptor.specs.declared.Descriptor.{Descriptor}
use Rattle.ranges.specs.Ranges.{Range}
use Rattle.damaged.specs.Damaged.{described_but_15, repaired_rows, lost_ranges}
use Rattle.salvaging.specs.declared.Salvaged.{Salvaged}

-- the block that our builder gives for them
unfoldable pub repaired_block : Option Column → ℕ → List ℕ → List ℕ
repaired_block None n b = []
repaired_block (Some c) n b = block_of c.kind Dictionary (repaired_rows c.kind n b)

abbrev pub salvaged_block : Descriptor → List ℕ → List ℕ
salvaged_block d b = repaired_block (column_of d.kind d.encoding d.width) d.rows b

abbrev pub salvaged_ranges : Descriptor → List ℕ → List Range
salvaged_ranges d b = lost_ranges d.rows b

-- ---- the number: the rules, then 4 for block or list
abbrev pub too_short : ℕ → ℕ → ℕ → ℕ → ℕ → Bool
too_short len ranges out firsts lasts = ltb out len || ltb firsts ranges || ltb lasts ranges

unfoldable pub salvage_number : Descriptor → List ℕ → ℕ → ℕ → ℕ → ℕ
salvage_number d b firsts lasts out = first_of (
    described_but_15 d b
    ∷ ROOM if too_short (length (salvaged_block d b)) (length (salvaged_ranges d b)) out firsts lasts
    ∷ [])

-- ---- the call: the block, and the ranges' first rows and last rows, from the start of the lent areas on; on a refusal nothing is written
abbrev pub salvaged : ℕ → ℕ → ℕ → Salvaged
salvaged e len ranges = record { number = e; len = len; ranges = ranges }

pub record Salvage : Type 0 where
  pub answer : Salvaged
  pub firsts : List ℕ
  pub lasts : List ℕ
  pub out : List ℕ

unfoldable pub salvage_by : ℕ → List ℕ → List Range → List ℕ → List ℕ → List ℕ → Salvage
salvage_by zero block rs firsts lasts out = record {
  answer = salvaged 0 (length block) (length rs);
  firsts = over firsts 0 (map (λ (r : Range). r.first) rs);
  lasts = over lasts 0 (map (λ (r : Range). r.last) rs);
  out = over out 0 block;
}
salvage_by (suc e) block rs firsts lasts out = record { answer = salvaged (suc e) 0 0; firsts = firsts; lasts = lasts; out = out }

abbrev pub salvage : Descriptor → List ℕ → List ℕ → List ℕ → List ℕ → Salvage
salvage d b firsts lasts out =
    salvage_by (salvage_number d b (length firsts) (length lasts) (length out)) (salvaged_block d b) (salvaged_ranges d b) firsts lasts out
