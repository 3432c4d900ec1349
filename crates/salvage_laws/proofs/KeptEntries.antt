-- The entries of the repaired rows: their plain block is sound, they are within the limit, and they are read back as they are. Assumes nothing.
use Rattle.std.specs.Prelude.{Some}
use Prim.Native.Nat.{ℕ, ◌≤◌, ◌<◌, ◌^◌}
use native.Mathlib.Omega.{arith}
use mathlib.Core.List.{List, [], ◌∷◌, map, map-id}
use mathlib.Core.Path.{◌≡◌, ◌∙◌}
use lib.ListN.{length}
use Rattle.encode.specs.declared.Kind.{Kind}
use Rattle.limits.specs.Limits.{MOST_ENTRIES, MOST_BYTES}
use Rattle.varint.proofs.OneSpelling.{Bytes}
use Rattle.plain.specs.Each.{Each}
use Rattle.plain.specs.Rows.{Row, null}
use Rattle.plain.specs.Plain.{places, plain_of, plain_number, plain_row}
use Rattle.nullable.specs.Nullable.{presence}
use Rattle.dict.specs.Dictionary.{entries_in, entries_of}
use Rattle.format.specs.declared.Encoding.TheVariants.{Dictionary}
use Rattle.format.specs.Blocks.{cut, column}
use Rattle.block_laws.proofs.Accepted.{accepted-fits}
use Rattle.block_laws.proofs.Entries.{each-entry}
use Rattle.block_laws.proofs.Lists.{map_each, over-list}
use Rattle.block_laws.proofs.Nullables.{present-kept}
use Rattle.block_laws.proofs.Plains.{Fits, kept, plain-opens, plain_row_lem}
use Rattle.building_laws.proofs.Entries.{entries-present}
use Rattle.damaged.specs.Damaged.{rules_but_15, repaired_rows}
use Rattle.damaged.proofs.ButKeys.{rules-met}
use Rattle.repaired_laws.proofs.Repaired as Repaired
use Rattle.salvage_laws.proofs.ShownSlots.{items, runs_of_rows, shown_at, shown_slot, slot-known, slot-shown}
use Rattle.salvage_laws.proofs.Salvaged.{each-own, parts, long, salvaged-accepted}

-- ---- rows that a plain block keeps as they are
-- one that is there, fits and is its own stored form
kept-own : (k : Kind) (r : Row) → Fits k r → cut k r ≡ r → presence r ≡ 1 → kept k r ≡ r
kept-own k r f own there = (rw there at (present-kept k r f)) ∙ own

each-kept : (k : Kind) (es : List Row) → Each (Fits k) es → Each (λ r. cut k r ≡ r) es → Each (λ r. presence r ≡ 1) es → Each (λ r. kept k r ≡ r) es
each-kept k [] f own there = tt
each-kept k (r ∷ es) f own there = (kept-own k r f.0 own.0 there.0, each-kept k es f.1 own.1 there.1)

-- ---- entries whose plain block is sound and gives them back
pub record Kept (k : Kind) (es : List Row) : Type 0 where
  pub few : length es ≤ MOST_ENTRIES
  pub small : length (plain_of k es) ≤ MOST_BYTES
  pub sound : plain_number k (length es) (plain_of k es) ≡ 0
  pub back : map (plain_row k (length es) (plain_of k es)) (places (length es) 0) ≡ es

module _ (k : Kind) (n : ℕ) (b : List ℕ) (sound : rules_but_15 (Some (column k Dictionary)) n b ≡ 0) where
  abbrev es : List Row
  es = entries_of (repaired_rows k n b)

  fewer : (length es ≤ entries_in b) × (length (plain_of k es) ≤ length (items b))
  unfolding repaired_rows
  fewer =
      Repaired.fewer-entries k (entries_in b) (items b) (parts k n b sound).entries-inside (shown_slot k n b) (slot-known k n b) (shown_at k n b)
      (slot-shown k n b) (runs_of_rows n b)

  pub kept-entries : Bytes b → Kept k (entries_of (repaired_rows k n b))
  kept-entries fit =
      let rows : List Row = repaired_rows k n b in
      let m = rules-met k n b sound in
      let small : length (plain_of k es) ≤ MOST_BYTES = omega (arith, fewer.1, long k n b sound, m.size) in
      let short : length (plain_of k es) < 2 ^ 32 = omega arith in
      let fits = each-entry (Fits k) rows (accepted-fits k Dictionary rows (salvaged-accepted k n b sound fit)) in
      let all = each-kept k es fits (each-entry (λ r. cut k r ≡ r) rows (each-own k n b)) (entries-present rows) in
      record {
        few = omega (arith, fewer.0, (parts k n b sound).few);
        small = small;
        sound = plain-opens k es fits short;
        back =
            over-list (plain_row k (length es) (plain_of k es)) (kept k) es null (plain_row_lem k es fits short)
            ∙ map_each (kept k) (λ (r : Row). r) es all
            ∙ map-id es;
      }
