-- 02 (xii): what is salvaged of a dictionary block that meets all rules but 15. Its repaired rows are as many as the block's, their block is accepted and
-- never longer, it opens, and it gives these rows. Assumes nothing.
use Rattle.std.specs.Prelude.{Some}
use Prim.Native.Nat.{ℕ, ◌+◌}
use native.Mathlib.Omega.{arith}
use mathlib.Core.Bool.{true}
use mathlib.Core.List.{List, map-id}
use mathlib.Core.Path.{◌≡◌, sym, ap, subst, ◌∙◌}
use lib.ListN.{length}
use Rattle.encode.specs.declared.Kind.{Kind}
use Rattle.varint.proofs.OneSpelling.{Bytes}
use Rattle.plain.specs.Each.{Each}
use Rattle.plain.specs.Rows.{Row}
use Rattle.plain.proofs.Each.{all-each}
use Rattle.rle.specs.RunLength.{runs_in, counts_length}
use Rattle.dict.specs.Dictionary.{key_length, entries_in}
use Rattle.dict.proofs.Parts.{length-key-part, length-entries-part}
use Rattle.format.specs.declared.Encoding.TheVariants.{Dictionary}
use Rattle.format.specs.Opening.{column_number, rows_of}
use Rattle.format.specs.Blocks.{block_of, cut, stored_row, stored_form, column}
use Rattle.format.specs.Sizes.{accepted}
use Rattle.format.proofs.Sound.{SoundParts, rules-told}
use Rattle.block_laws.proofs.Blocks.{our-blocks-sound, our-blocks-hold}
use Rattle.block_laws.proofs.Lists.{each_map, map_each}
use Rattle.damaged.specs.Damaged.{rules_but_15, repaired_rows}
use Rattle.damaged.proofs.ButKeys.{Meets, rules-met}
use Rattle.repaired_laws.proofs.ShownRuns as ShownRuns
use Rattle.repaired_laws.proofs.Repaired as Repaired
use Rattle.salvage_laws.specs.Words.{NeverLonger, GivesRepaired}
use Rattle.salvage_laws.proofs.ShownSlots.{key_block, items, key-bytes, item-bytes, runs_of_rows, shown_at, shown_slot, slot-known, slot-shown, rows-shown}
use Rattle.salvage_laws.proofs.OwnForms.{entry-own}

-- each repaired row is its own stored form
module _ (k : Kind) (n : ℕ) (b : List ℕ) where
  shown-own : (i : ℕ) → cut k (shown_at k n b i) ≡ shown_at k n b i
  shown-own i = subst (λ (r : Row). cut k r ≡ r) (sym (slot-shown k n b i)) (entry-own k (entries_in b) (items b) (shown_slot k n b i))

  pub each-own : Each (λ (r : Row). cut k r ≡ r) (repaired_rows k n b)
  unfolding repaired_rows
  each-own =
      each_map (λ (r : Row). cut k r ≡ r) (shown_at k n b) (runs_of_rows n b)
      (all-each (λ (i : ℕ). cut k (shown_at k n b i) ≡ shown_at k n b i) shown-own (runs_of_rows n b))

  own-form : stored_form k Dictionary (repaired_rows k n b) ≡ repaired_rows k n b
  unfolding stored_form stored_row
  own-form = map_each (cut k) (λ (r : Row). r) (repaired_rows k n b) each-own ∙ map-id (repaired_rows k n b)

module _ (k : Kind) (n : ℕ) (b : List ℕ) (sound : rules_but_15 (Some (column k Dictionary)) n b ≡ 0) where
  met : Meets k n b
  met = rules-met k n b sound

  pub parts : SoundParts k n b (runs_in (key_block b)) (counts_length (key_block b)) (key_length b) (entries_in b)
  parts = (rules-told k n b 0 met.rules).0

  pub long : length b ≡ 12 + length (key_block b) + length (items b)
  long =
      let room = parts.head-room in
      omega (arith, length-key-part (key_length b) b room, length-entries-part (key_length b) b)

  -- As many rows as before.
  pub rows-many : length (repaired_rows k n b) ≡ n
  rows-many = ap length (rows-shown k n b) ∙ ShownRuns.rows-many (shown_at k n b) _ _ n parts.key-runs.sum

  module _ (fit : Bytes b) where
    -- The block that is made of them is accepted by the builder
    pub salvaged-accepted : accepted k Dictionary (repaired_rows k n b) ≡ true
    salvaged-accepted =
        ap (accepted k Dictionary) (rows-shown k n b)
        ∙ Repaired.rows-accepted k (entries_in b) (items b) parts.entries-inside (shown_slot k n b) (slot-known k n b) (shown_at k n b) (slot-shown k n b)
        n (key_block b) parts.key-rules (key-bytes b fit) (item-bytes b fit) met.most parts.few (omega (arith, long, met.size))

    -- and not longer than the damaged one.
    pub never-longer : NeverLonger k n b
    unfolding block_of
    never-longer =
        rw (rows-shown k n b, long)
        (Repaired.never-longer k (entries_in b) (items b) parts.entries-inside (shown_slot k n b) (slot-known k n b) (shown_at k n b) (slot-shown k n b)
        n (key_block b) parts.key-rules (key-bytes b fit))

    -- It opens with as many rows, and gives the repaired rows.
    pub gives-repaired : GivesRepaired k n b
    gives-repaired = (
      rw rows-many at (our-blocks-sound k Dictionary (repaired_rows k n b) salvaged-accepted),
      rw rows-many at (our-blocks-hold k Dictionary (repaired_rows k n b) salvaged-accepted) ∙ own-form k n b,
    )

    -- The halves of that, each by itself.
    pub salvaged-opens : column_number (Some (column k Dictionary)) n (block_of k Dictionary (repaired_rows k n b)) ≡ 0
    salvaged-opens = gives-repaired.0

    pub salvaged-rows : rows_of k Dictionary n (block_of k Dictionary (repaired_rows k n b)) ≡ repaired_rows k n b
    salvaged-rows = gives-repaired.1
