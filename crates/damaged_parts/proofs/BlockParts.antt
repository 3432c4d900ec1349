-- The parts of a dictionary block that meets all rules but 15: they are there and good, and its repaired rows and those that were lost are theirs.
-- Assumes nothing.
use Prim.Native.Nat.{ℕ, ◌≤◌}
use native.Mathlib.Omega.{arith}
use mathlib.Core.Bool.{Bool, true, false, cond}
use mathlib.Core.List.{List, map}
use mathlib.Core.Path.{◌≡◌, refl, ap, fun_ext}
use lib.ListN.{length}
use Rattle.limits.specs.Limits.{MOST_ROWS, MOST_BYTES}
use Rattle.encode.specs.declared.Kind.{Kind}
use Rattle.plain.specs.Rows.{Row, null}
use Rattle.dict.specs.Dictionary.{key_part, entries_part, slot_at, entry_row}
use Rattle.dict.proofs.Parts.{length-key-part}
use Rattle.format.specs.declared.Encoding.TheVariants.{Dictionary}
use Rattle.format.specs.declared.Head.{Head}
use Rattle.format.specs.Opening.{head_of, row_at, counts_in, places_of}
use Rattle.format.proofs.Sound.{SoundParts, parts-sound}
use Rattle.anatomy.specs.declared.Parts.{Parts}
use Rattle.anatomy.specs.Parts.{part_in, marks_in, items_in, AllWithin, Right}
use Rattle.anatomy.proofs.RowsOfParts.{Laid, laid}
use Rattle.descriptor.specs.declared.Descriptor.{Descriptor}
use Rattle.damaged.specs.Damaged.{is_lost, repaired_at, repaired_rows}
use Rattle.damaged.specs.Taken.{Takes}
use Rattle.damaged.proofs.HeadNumbers.{numbers-right}
use Rattle.repaired.specs.Repaired.{lost_at, slot_in, row_in, runs_walked, rows_repaired, none_yet, Keyed, Entered, Ahead}
use Rattle.repaired.proofs.Start.{SoundKeyBlock, key-block-sound, sound-ahead, sound-runs, sound-keyed}
use Rattle.damaged.proofs.ButKeys.{Meets, rules-met}
use Rattle.damaged_parts.proofs.KeyParts.{keys_list, Holds, parts-hold}

-- ---- a run, as the definition and as the code show it
null-or-entry : (k : Kind) (entries : ℕ) (items : List ℕ) (slot : ℕ) (t : Bool) → entry_row k entries items (cond t 0 slot) ≡ cond t null (entry_row k entries items slot)
unfolding entry_row
null-or-entry k entries items slot true = refl
null-or-entry k entries items slot false = refl

module _ (h : Head) (b : List ℕ) where
  rows_same : (k : Kind) (n : ℕ) → row_in k h.entries (keys_list h b) (entries_part h.keys b) ≡ repaired_at k n h b
  unfolding row_in slot_in lost_at repaired_at is_lost row_at
  rows_same k n = fun_ext (λ i. null-or-entry k h.entries (entries_part h.keys b) (slot_at (keys_list h b) i) (is_lost h b i))

  lost-same : lost_at h.entries (keys_list h b) ≡ is_lost h b
  unfolding lost_at is_lost
  lost-same = fun_ext (λ i. refl)

-- ---- the parts that were taken
module _ {d : Descriptor} {b : List ℕ} {p : Parts} (t : Takes d b p) where
  abbrev h : Head
  h = head_of Dictionary b

  meets : Meets t.kind d.rows b
  meets = rules-met t.kind d.rows b t.sound

  sound : SoundParts t.kind d.rows b h.runs h.counts h.keys h.entries
  sound = parts-sound t.kind d.rows b meets.rules

  key-block : SoundKeyBlock d.rows (key_part h.keys b) h.runs h.counts
  unfolding head_of
  key-block = key-block-sound d.rows (key_part h.keys b) sound.key-rules

  right : Right t.kind Dictionary d.rows (length b) h 0
  right = numbers-right t.kind d.rows b meets.size meets.most meets.rules

  lies : Laid t.kind Dictionary d.rows h b p
  lies = rw t.parts (laid t.kind d.rows (length b) h 0 b refl Dictionary right)

  holds : Holds h b p
  holds = rw t.parts (parts-hold t.kind d.rows b h sound right)

  pub rows_few : d.rows ≤ MOST_ROWS
  rows_few = meets.most

  pub part-kind : p.source.kind ≡ t.kind
  part-kind = lies.kind

  pub parts_within : AllWithin p (length b)
  parts_within = lies.within

  pub parts-short : length (items_in p b) ≤ MOST_BYTES
  parts-short = lies.ready.block

  pub parts-keyed : Keyed p.source.runs (marks_in p b)
  parts-keyed =
      let l = length-key-part h.keys b sound.head-room in
      rw (holds.runs, holds.keys) (sound-keyed key-block (omega (arith, meets.size, sound.head-room)))

  pub parts-entered : Entered t.kind p.source.items (items_in p b)
  parts-entered = rw (holds.entries, holds.items) (record { few = sound.few; sound = sound.entries-inside })

  pub parts-ahead : Ahead p.source.runs (part_in p.counts b) none_yet d.rows
  parts-ahead = rw (holds.runs, holds.counts) (sound-ahead key-block)

  places_same : runs_walked p.source.runs (part_in p.counts b) d.rows ≡ places_of Dictionary d.rows h b
  unfolding places_of counts_in
  places_same = rw (holds.runs, holds.counts) (sound-runs key-block)

  -- The rows are those of the block, those of unknown keys made null.
  pub parts-rows :
      rows_repaired t.kind p.source.items p.source.runs (part_in p.counts b) (marks_in p b) (items_in p b) d.rows
      ≡ repaired_rows t.kind d.rows b
  unfolding repaired_rows
  parts-rows =
      rw (places_same, holds.entries, holds.keys, holds.items)
      (ap (λ (f : ℕ → Row). map f (places_of Dictionary d.rows h b)) (rows_same h b t.kind d.rows))

  -- And so are the rows that were lost.
  pub parts-lost :
      map (lost_at p.source.items (marks_in p b)) (runs_walked p.source.runs (part_in p.counts b) d.rows)
      ≡ map (is_lost (head_of Dictionary b) b) (places_of Dictionary d.rows (head_of Dictionary b) b)
  parts-lost =
      rw (places_same, holds.entries, holds.keys)
      (ap (λ (f : ℕ → Bool). map f (places_of Dictionary d.rows h b)) (lost-same h b))
