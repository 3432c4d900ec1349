-- The parts of a dictionary block, whose keys may name anything, as lists: its counts, its keys and its entries. Where there are no runs the parts of counts
-- and keys are empty, and so are these lists. Assumes nothing.
use Prim.Native.Nat.{ℕ, ◌+◌, ◌≤◌}
use native.Mathlib.Omega.{arith}
use mathlib.Core.Bool.{Bool, true, false, cond}
use mathlib.Core.List.{List, []}
use mathlib.Core.Logic.{⊎_elim}
use mathlib.Core.Path.{◌≡◌, refl, sym, ap, ◌∙◌}
use lib.ListN.{length, drop}
use lib.Seq.{take-nil, drop-nil, take-take}
use Rattle.encode.specs.declared.Kind.{Kind}
use Rattle.plain.specs.Plain.{plain_number}
use Rattle.rle.specs.RunLength.{counts_part, inner_part}
use Rattle.dict.specs.Dictionary.{i32, key_part, entries_part}
use Rattle.source.specs.declared.Marks.TheVariants.{Keys}
use Rattle.source.specs.declared.Source.{Source}
use Rattle.format.specs.declared.Encoding.TheVariants.{Dictionary}
use Rattle.format.specs.declared.Head.{Head}
use Rattle.format.proofs.Sound.{NoRuns, SomeRuns, SoundParts}
use Rattle.anatomy.specs.declared.Parts.{Parts}
use Rattle.anatomy.specs.Tests.{no_runs}
use Rattle.anatomy.specs.Parts as P
use Rattle.anatomy.specs.Parts.{part, key_parts, parts_of, part_in, marks_in, items_in, Right}
use Rattle.anatomy.proofs.RightNumbers.{no-runs, keys-fit}
use Rattle.anatomy.proofs.PartsOfLists.{part-rest, part-inside, take-drop}

-- the definition's lists
abbrev pub counts_list : Head → List ℕ → List ℕ
counts_list h b = counts_part h.counts (key_part h.keys b)

abbrev pub keys_list : Head → List ℕ → List ℕ
keys_list h b = inner_part h.counts (key_part h.keys b)

-- these parts hold them
pub record Holds (h : Head) (b : List ℕ) (p : Parts) : Type 0 where
  pub entries : p.source.items ≡ h.entries
  pub runs : p.source.runs ≡ h.runs
  pub counts : part_in p.counts b ≡ counts_list h b
  pub keys : marks_in p b ≡ keys_list h b
  pub items : items_in p b ≡ entries_part h.keys b

-- ---- the lists, with no runs and with some
module _ (b : List ℕ) (keys : ℕ) where
  no-counts : (counts : ℕ) → key_part keys b ≡ [] → part_in (part 0 0) b ≡ counts_part counts (key_part keys b)
  unfolding part_in counts_part
  no-counts counts z = rw z (sym (take-nil counts))

  no_keys : (counts : ℕ) → key_part keys b ≡ [] → part_in (part 0 0) b ≡ inner_part counts (key_part keys b)
  unfolding part_in inner_part
  no_keys counts z = rw z (sym (drop-nil (8 + counts)))

  some-counts : (counts : ℕ) → 8 + counts ≤ keys → part_in (part 20 (20 + counts)) b ≡ counts_part counts (key_part keys b)
  unfolding counts_part key_part
  some-counts counts h =
      let e : 12 + (8 + counts) ≡ 20 + counts = omega arith in
      (rw e at (part-inside b 12 (8 + counts) 8))
      ∙ ap (drop 8) (sym (take-take (8 + counts) keys (drop 12 b) h))
      ∙ sym (take-drop counts 8 (key_part keys b))

  some-keys : (counts : ℕ) → part_in (part (20 + counts) (12 + keys)) b ≡ inner_part counts (key_part keys b)
  unfolding inner_part key_part
  some-keys counts = let e : 12 + (8 + counts) ≡ 20 + counts = omega arith in rw e at (part-inside b 12 keys (8 + counts))

  its-entries : part_in (part (12 + keys) (length b)) b ≡ entries_part keys b
  unfolding entries_part
  its-entries = part-rest b (length b) (12 + keys) refl

-- ---- the parts of a block whose keys may name anything
module _ (k : Kind) (n : ℕ) (b : List ℕ) (h : Head) (s : SoundParts k n b h.runs h.counts h.keys h.entries)
    (right : Right k Dictionary n (length b) h 0) where
  none : no_runs h ≡ true → key_part h.keys b ≡ []
  none e = ⊎_elim
      (λ (z : NoRuns n (key_part h.keys b) h.runs h.counts). z.no_bytes)
      (λ (z : SomeRuns (plain_number i32) (key_part h.keys b) h.runs h.counts). absurd (omega (arith, z.some, (no-runs h e).0)))
      s.key-runs.either

  some : no_runs h ≡ false → 8 + h.counts ≤ h.keys
  some e = omega (arith, keys-fit k n (length b) h 0 right e)

  key-parts-hold : Holds h b (key_parts k (length b) h)
  unfolding key_parts
  key-parts-hold = go (no_runs h) refl
    where
      whole : Source
      whole = P.source k Keys h.entries h.runs true

      go : (t : Bool) → no_runs h ≡ t
          → Holds h b
          (cond t (P.apart whole (part 0 0) (part 0 0) (part (12 + h.keys) (length b)))
          (P.apart whole (part 20 (20 + h.counts)) (part (20 + h.counts) (12 + h.keys)) (part (12 + h.keys) (length b))))
      go true e =
          let z = none e in
          record {
            entries = refl;
            runs = refl;
            counts = no-counts b h.keys h.counts z;
            keys = no_keys b h.keys h.counts z;
            items = its-entries b h.keys;
          }
      go false e = record {
        entries = refl;
        runs = refl;
        counts = some-counts b h.keys h.counts (some e);
        keys = some-keys b h.keys h.counts;
        items = its-entries b h.keys;
      }

  pub parts-hold : Holds h b (parts_of k Dictionary n (length b) h)
  unfolding parts_of
  parts-hold = key-parts-hold
