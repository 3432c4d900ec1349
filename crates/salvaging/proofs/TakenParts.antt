-- The parts of a block that was taken apart can be mended, and what is mended of them is what is salvaged of the block. Assumes nothing.
use Prim.Native.Nat.{ℕ, ◌≤◌, ◌<◌}
use native.Mathlib.Omega.{arith}
use mathlib.Core.List.{List}
use mathlib.Core.Path.{◌≡◌, sym, ap, subst}
use lib.ListN.{length, get_or}
use Rattle.limits.specs.Limits.{MOST_BYTES}
use Rattle.limits.specs.Refusals.{ROOM}
use Rattle.plain.specs.Rows.{Row}
use Rattle.plain.specs.Rules.{◌if◌, first_of}
use Rattle.dict.specs.Dictionary.{entries_of, dictionary_of}
use Rattle.format.specs.Blocks.{block_of}
use Rattle.format.proofs.Answers.{first_one}
use Rattle.anatomy.specs.declared.Parts.{Parts}
use Rattle.anatomy.specs.Parts.{part_in, marks_in, items_in}
use Rattle.descriptor.specs.declared.Descriptor.{Descriptor}
use Rattle.ranges.specs.Ranges.{ranges_of}
use Rattle.damaged.specs.Damaged.{repaired_rows, lost_ranges}
use Rattle.damaged.specs.Taken.{Takes}
use Rattle.damaged.proofs.ButKeys.{rules-met}
use Rattle.damaged_parts.proofs.BlockParts.{part-kind, parts-keyed, parts-entered, parts-short, parts-ahead, parts-rows, parts-lost}
use Rattle.repaired.specs.Repaired.{rows_repaired}
use Rattle.salvage_laws.proofs.Salvaged.{never-longer}
use Rattle.salvage_laws.proofs.KeptEntries.{kept-entries}
use Rattle.salvaging.specs.declared.Salvaged.{Salvaged}
use Rattle.salvaging.specs.Salvaging.{repaired_block, salvaged_block, salvaged_ranges, salvage_number, salvage, too_short}
use Rattle.salvaging.specs.Mending.{Kept, Mendable, ranges_lost, mended}
use Rattle.salvaging.proofs.Outcomes.{Comes}

module _ {d : Descriptor} {b : List ℕ} {p : Parts} (t : Takes d b p) where
  abbrev rows : List Row
  rows = rows_repaired t.kind p.source.items p.source.runs (part_in p.counts b) (marks_in p b) (items_in p b) d.rows

  -- ---- what is salvaged
  block_same : salvaged_block d b ≡ dictionary_of t.kind rows
  unfolding repaired_block block_of
  block_same = rw (t.named, parts-rows t)

  ranges-same : salvaged_ranges d b ≡ ranges_lost p.source.items p.source.runs (part_in p.counts b) (marks_in p b) d.rows
  unfolding lost_ranges
  ranges-same = sym (ap ranges_of (parts-lost t))

  number_same : (fs ls out : ℕ)
      → salvage_number d b fs ls out ≡ ROOM if too_short (length (salvaged_block d b)) (length (salvaged_ranges d b)) out fs ls
  unfolding salvage_number first_of
  number_same fs ls out = rw t.number (first_one (ROOM if too_short (length (salvaged_block d b)) (length (salvaged_ranges d b)) out fs ls))

  salvaged-mended : (fs ls out : List ℕ)
      → salvage d b fs ls out
      ≡ mended p.source.kind p.source.items p.source.runs (part_in p.counts b) (marks_in p b) (items_in p b) d.rows fs ls out
  salvaged-mended fs ls out = rw (part-kind t, number_same (length fs) (length ls) (length out), block_same, ranges-same)

  -- so what the code came to with the parts is what is asked of the block
  pub parts-salvaged : (fs ls out : List ℕ) {r : Salvaged} {fs' ls' out' : List ℕ}
      → Comes r fs' ls' out'
      (mended p.source.kind p.source.items p.source.runs (part_in p.counts b) (marks_in p b) (items_in p b) d.rows fs ls out)
      → Comes r fs' ls' out' (salvage d b fs ls out)
  parts-salvaged fs ls out {r} {fs'} {ls'} {out'} h = subst (Comes r fs' ls' out') (sym (salvaged-mended fs ls out)) h

  -- ---- the parts are good
  module _ (fit : (i : ℕ) → get_or b i 0 < 256) where
    block-small : length (dictionary_of t.kind (repaired_rows t.kind d.rows b)) ≤ MOST_BYTES
    unfolding block_of
    block-small = omega (arith, never-longer t.kind d.rows b t.sound fit, (rules-met t.kind d.rows b t.sound).size)

    entries-kept : Kept t.kind (entries_of (repaired_rows t.kind d.rows b))
    entries-kept =
        let k = kept-entries t.kind d.rows b t.sound fit in
        record { good = record { few = k.few; sound = k.sound }; read = k.back }

    pub parts-mendable : Mendable p.source.kind p.source.items p.source.runs (part_in p.counts b) (marks_in p b) (items_in p b) d.rows
    parts-mendable =
        rw (part-kind t) (record {
          keyed = parts-keyed t;
          entered = parts-entered t;
          short = parts-short t;
          ahead = parts-ahead t;
          small = rw (parts-rows t) block-small;
          kept = rw (parts-rows t) entries-kept;
        })
