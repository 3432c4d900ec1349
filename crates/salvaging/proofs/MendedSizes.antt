-- The sizes of a column that can be mended, as they were found: the block's length, and what writing it asks of its entries. Assumes nothing.
use Prim.Native.Nat.{ℕ}
use mathlib.Core.List.{List}
use mathlib.Core.Path.{◌≡◌, ap, ◌∙◌}
use lib.ListN.{length}
use Rattle.encode.specs.declared.Kind.{Kind}
use Rattle.plain.specs.Rows.{Row}
use Rattle.plain.specs.Plain.{plain_of}
use Rattle.dict.specs.Dictionary.{entries_of, dictionary_of}
use Rattle.repaired.specs.Repaired.{Entered}
use Rattle.used.specs.Used.{plain_rows}
use Rattle.repaired_sizes.specs.declared.Sizes.{Sizes}
use Rattle.repaired_sizes.specs.Sizes.{sizes_of, block_long}
use Rattle.repaired_sizes.proofs.Long.{block-long}
use Rattle.repaired_block.proofs.Block.{kept-long}
use Rattle.salvaging.specs.Mending.{Kept}

module _ (k : Kind) (rows : List Row) {s : Sizes} (is : s ≡ sizes_of k rows) where
  pub found-long : {len : ℕ} → len ≡ block_long k s → len ≡ length (dictionary_of k rows)
  found-long p = p ∙ ap (block_long k) is ∙ block-long k rows

  module _ (kept : Kept k (entries_of rows)) where
    pub entries-good : Entered k s.entries (plain_of k (entries_of rows))
    entries-good = rw (kept-long k rows is) kept.good

    pub entries-read : plain_rows k s.entries (plain_of k (entries_of rows)) ≡ entries_of rows
    entries-read = rw (kept-long k rows is) kept.read
