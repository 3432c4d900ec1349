-- The parts of a dictionary block: how long they are, and the parts of the block of some rows. Assumes nothing.
use Prim.Native.Nat.{ℕ, ◌+◌, ◌-◌, ◌≤◌, ◌<◌, ◌^◌}
use native.Mathlib.Omega.{arith}
use mathlib.Core.Path.{◌≡◌, refl, ◌∙◌}
use mathlib.Core.List.{List}
use lib.ListN.{length, drop, length-drop}
use lib.Seq.{length-take-le, take_at, drop_at, drop-drop}
use Rattle.encode.specs.Bytes.{high-first}
use Rattle.encode.specs.declared.Kind.{Kind}
use Rattle.encode.proofs.RoundTrip.{number-bytes}
use Rattle.plain.specs.Rows.{Row}
use Rattle.plain.specs.Plain.{plain_of}
use Rattle.dict.specs.Dictionary.{entries_of, key_block_of, dictionary_of, key_length, entries_in, key_part, entries_part}

pub length-key-part : (len : ℕ) (b : List ℕ) → 12 + len ≤ length b → length (key_part len b) ≡ len
unfolding key_part
length-key-part len b h = length-take-le len (drop 12 b) (simp length-drop (omega arith))

pub length-entries-part : (len : ℕ) (b : List ℕ) → length (entries_part len b) ≡ length b - (12 + len)
unfolding entries_part
length-entries-part len b = length-drop (12 + len) b

-- ---- the block of some rows
module _ (k : Kind) (rows : List Row) where
  pub key-length-of-block : length (key_block_of rows) < 2 ^ 64 → key_length (dictionary_of k rows) ≡ length (key_block_of rows)
  unfolding key_length dictionary_of
  key-length-of-block h = number-bytes high-first 8 (length (key_block_of rows)) ∙ omega arith

  pub entries-of-block : length (entries_of rows) < 2 ^ 32 → entries_in (dictionary_of k rows) ≡ length (entries_of rows)
  unfolding entries_in dictionary_of
  entries-of-block h = number-bytes high-first 4 (length (entries_of rows)) ∙ omega arith

  -- the twelve bytes of the head are written out
  pub key-part-of-block : key_part (length (key_block_of rows)) (dictionary_of k rows) ≡ key_block_of rows
  unfolding key_part dictionary_of
  key-part-of-block = take_at (key_block_of rows) (plain_of k (entries_of rows)) (length (key_block_of rows)) refl

  pub entries-part-of-block : entries_part (length (key_block_of rows)) (dictionary_of k rows) ≡ plain_of k (entries_of rows)
  unfolding entries_part dictionary_of
  entries-part-of-block =
      rw (← drop-drop (length (key_block_of rows)) 12 (dictionary_of k rows))
      (drop_at (key_block_of rows) (plain_of k (entries_of rows)) (length (key_block_of rows)) refl)
