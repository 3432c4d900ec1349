-- The sizes of the block of some rows: they make its length, and none is larger. Assumes nothing.
use Prim.Native.Nat.{ℕ, suc, ◌+◌, ◌*◌, ◌≤◌}
use native.Mathlib.Omega.{arith}
use mathlib.Core.Bool.{Bool, true, false, cond}
use mathlib.Core.List.{List, [], ◌∷◌}
use mathlib.Core.Path.{◌≡◌, refl, sym}
use lib.Dec.{eqb}
use lib.ListN.{length}
use types.Run.{OneOf, miss}
use denote.Enum.Declared.{tag_of}
use borrow.Author.Tests.{ne_eqb}
use Rattle.encode.specs.declared.Kind.{Kind}
use Rattle.encode.specs.declared.Kind.TheVariants.{Fixed, Char, Blob}
use Rattle.encode.specs.contracts.Kind.{the_type}
use Rattle.plain.specs.Rows.{Row}
use Rattle.plain.specs.Plain.{joined, item_of, plain_of}
use Rattle.rle.specs.RunLength.{Run, runs_of, counts_of}
use Rattle.dict.specs.Dictionary.{entries_of, key_block_of, dictionary_of}
use Rattle.repaired_laws.proofs.Lengths.{key_bytes, key-block-length, dictionary-length}
use Rattle.repaired_laws.proofs.PlainEntries.{blobs-length}
use Rattle.repaired_sizes.specs.declared.Sizes.{Sizes}
use Rattle.repaired_sizes.specs.Sizes.{sizes_of, keys_long, entries_long, block_long}
use Rattle.repaired_sizes.proofs.Growing.{entries-few}

-- ---- the length of the block and of its parts
pub keys-long : (k : Kind) (rows : List Row) → keys_long (sizes_of k rows) ≡ length (key_block_of rows)
unfolding keys_long sizes_of
keys-long k rows = sym (key-block-length rows)

pub entries-long : (k : Kind) (rows : List Row) → entries_long k (sizes_of k rows) ≡ length (plain_of k (entries_of rows))
unfolding entries_long sizes_of plain_of
entries-long (Fixed p) rows = refl
entries-long (Char w) rows = refl
entries-long (Blob text) rows = sym (blobs-length text (entries_of rows))

pub block-long : (k : Kind) (rows : List Row) → block_long k (sizes_of k rows) ≡ length (dictionary_of k rows)
unfolding block_long
block-long k rows = omega (arith, keys-long k rows, entries-long k rows, key-block-length rows, dictionary-length k rows)

-- ---- as the code finds them
pub few-long : (k : Kind) (s : Sizes) → OneOf (0 ∷ 1 ∷ []) (tag_of the_type k) → s.bytes ≡ entries_long k s
unfolding entries_long
few-long (Fixed p) s h = refl
few-long (Char w) s h = refl
few-long (Blob text) s h = absurd (miss (0 ∷ 1 ∷ []) 2 tt h)

pub blobs-long : (s : Sizes) {k : Kind} {text : Bool} → k ≡ Blob text → 4 * s.entries + s.bytes ≡ entries_long k s
unfolding entries_long
blobs-long s e = rw e

pub keys-most : (s : Sizes) → keys_long s ≤ 8 + s.counts + 4 * s.runs
unfolding keys_long
keys-most s = go (eqb s.runs 0)
  where
    go : (t : Bool) → cond t 0 (8 + s.counts + 4 * s.runs) ≤ 8 + s.counts + 4 * s.runs
    go true = omega arith
    go false = omega arith

pub entries-most : (k : Kind) (s : Sizes) → entries_long k s ≤ 4 * s.entries + s.bytes
unfolding entries_long
entries-most (Fixed p) s = omega arith
entries-most (Char w) s = omega arith
entries-most (Blob text) s = omega arith

-- ---- each size is at most m
abbrev pub AtMost : ℕ → Sizes → Type 0
AtMost m s = (s.runs ≤ m) × (s.counts ≤ m) × (s.entries ≤ m) × (s.bytes ≤ m)

keys-within : (rs : List Run) → (length rs ≤ key_bytes rs) × (length (counts_of rs) ≤ key_bytes rs)
unfolding counts_of joined
keys-within [] = (omega arith, omega arith)
keys-within (r ∷ rs) = rw (ne_eqb (suc (length rs)) 0 (λ z. omega arith)) (omega arith, omega arith)

items-within : (k : Kind) (es : List Row) → length (joined (item_of k) es) ≤ length (plain_of k es)
unfolding plain_of
items-within (Fixed p) es = omega arith
items-within (Char w) es = omega arith
items-within (Blob text) es = omega (arith, blobs-length text es)

module _ (k : Kind) (rows : List Row) where
  pub sizes-within : AtMost (length (dictionary_of k rows)) (sizes_of k rows)
  unfolding sizes_of
  sizes-within =
      let d = dictionary-length k rows in
      let r = keys-within (runs_of rows) in
      (omega arith, omega arith, omega (arith, entries-few rows), omega (arith, items-within k (entries_of rows)))

  -- what was found to be the sizes
  pub found_within : {s : Sizes} → s ≡ sizes_of k rows → {m : ℕ} → length (dictionary_of k rows) ≤ m → AtMost m s
  found_within e h = let w = sizes-within in rw e (omega arith, omega arith, omega arith, omega arith)
