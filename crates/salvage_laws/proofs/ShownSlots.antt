-- The rows of a damaged dictionary block, repaired: each run shows null, by slot 0, or the entry of a slot that is there. Assumes nothing.
use Prim.Native.Nat.{ℕ, ◌+◌, ◌≤◌}
use native.Mathlib.Omega.{arith}
use mathlib.Core.Bool.{Bool, true, false, cond}
use mathlib.Core.List.{List}
use mathlib.Core.Path.{◌≡◌, refl}
use lib.ListN.{drop}
use lib.Seq.{get_or-drop, drop-drop}
use borrow.Author.Tests.{ltb-false}
use Rattle.encode.specs.declared.Kind.{Kind}
use Rattle.varint.proofs.OneSpelling.{Bytes}
use Rattle.plain.specs.Rows.{Row, null}
use Rattle.rle.specs.RunLength.{counts_part, inner_part}
use Rattle.dict.specs.Dictionary.{key_length, entries_in, key_part, entries_part, slot_at, entry_row}
use Rattle.format.specs.declared.Encoding.TheVariants.{Dictionary}
use Rattle.format.specs.Opening.{head_of, row_at, counts_in, places_of}
use Rattle.damaged.specs.Damaged.{is_lost, repaired_at, repaired_rows}
use Rattle.repaired_laws.proofs.ShownRuns.{counts-bytes}
use Rattle.repaired_laws.proofs.Repaired.{shown_rows}

-- ---- the parts of the block are bytes
abbrev pub key_block : List ℕ → List ℕ
key_block b = key_part (key_length b) b

abbrev pub items : List ℕ → List ℕ
items b = entries_part (key_length b) b

module _ (b : List ℕ) (fit : Bytes b) where
  bytes-behind : (m : ℕ) → Bytes (drop m b)
  bytes-behind m i = rw (get_or-drop m b i 0) (fit (m + i))

  -- twelve bytes on, as the counts of a run-length block lie eight on
  pub key-bytes : Bytes (key_block b)
  unfolding key_part counts_part
  key-bytes = rw (drop-drop 8 4 b) at (counts-bytes (key_length b) (drop 4 b) (bytes-behind 4))

  pub item-bytes : Bytes (items b)
  unfolding entries_part
  item-bytes = bytes-behind (12 + key_length b)

-- ---- what each run shows
-- the run of each row
abbrev pub runs_of_rows : ℕ → List ℕ → List ℕ
runs_of_rows n b = places_of Dictionary n (head_of Dictionary b) b

module _ (k : Kind) (n : ℕ) (b : List ℕ) where
  abbrev pub shown_at : ℕ → Row
  shown_at i = repaired_at k n (head_of Dictionary b) b i

  -- null's slot, where the key names no entry
  unfoldable pub shown_slot : ℕ → ℕ
  shown_slot i = cond (is_lost (head_of Dictionary b) b i) 0 (slot_at (inner_part (head_of Dictionary b).counts (key_block b)) i)

  pub slot-known : (i : ℕ) → shown_slot i ≤ entries_in b
  unfolding shown_slot is_lost head_of
  slot-known i = go (is_lost (head_of Dictionary b) b i) refl
    where
      go : (t : Bool) → is_lost (head_of Dictionary b) b i ≡ t → cond t 0 (slot_at (inner_part (head_of Dictionary b).counts (key_block b)) i) ≤ entries_in b
      go true e = omega arith
      go false e = ltb-false _ _ e

  pub slot-shown : (i : ℕ) → shown_at i ≡ entry_row k (entries_in b) (items b) (shown_slot i)
  unfolding shown_slot repaired_at row_at entry_row head_of
  slot-shown i = go (is_lost (head_of Dictionary b) b i) _
    where
      go : (t : Bool) (slot : ℕ) → cond t null (entry_row k (entries_in b) (items b) slot) ≡ entry_row k (entries_in b) (items b) (cond t 0 slot)
      go true slot = refl
      go false slot = refl

  pub rows-shown : repaired_rows k n b ≡ shown_rows shown_at (key_block b)
  unfolding repaired_rows places_of counts_in head_of
  rows-shown = refl
