-- A list within the limits: what that says of it, limit by limit; and no rows are within them. Assumes nothing.
use Prim.Native.Nat.{◌≤◌}
use mathlib.Core.Bool.{Bool, true, ◌&&◌}
use mathlib.Core.List.{List, []}
use mathlib.Core.Path.{◌≡◌, refl}
use lib.Dec.{leb}
use lib.ListN.{length}
use borrow.Author.Tests.{leb-true}
use Rattle.limits.specs.Limits.{MOST_BYTES, MOST_ENTRIES, MOST_ITEMS, MOST_ROWS}
use Rattle.encode.specs.declared.Kind.{Kind}
use Rattle.encode.specs.declared.Kind.TheVariants.{Fixed, Char, Blob}
use Rattle.encode.proofs.Bools.{both}
use Rattle.plain.specs.Rows.{Row}
use Rattle.plain.specs.Plain.{joined, places, ends_from, plain_of}
use Rattle.nullable.specs.Nullable.{bitmap_length, bitmap_of, nullable_of}
use Rattle.rle.specs.RunLength.{runs_of, run_length_of}
use Rattle.dict.specs.Dictionary.{entries_after, entries_of, key_block_of, dictionary_of}
use Rattle.format.specs.declared.Encoding.{Encoding}
use Rattle.format.specs.declared.Encoding.TheVariants.{Plain, Nullable, RunLength, RunLengthNullable, Dictionary}
use Rattle.format.specs.Blocks.{block_of}
use Rattle.format.specs.Sizes.{keys_of, stored_items, stored_entries, within_limits}

pub record Limits (k : Kind) (e : Encoding) (rows : List Row) : Type 0 where
  pub total : length rows ≤ MOST_ROWS
  pub items : stored_items e rows ≤ MOST_ITEMS
  pub entries : stored_entries e rows ≤ MOST_ENTRIES
  pub size : length (block_of k e rows) ≤ MOST_BYTES

pub within-told : (k : Kind) (e : Encoding) (rows : List Row) → within_limits k e rows ≡ true → Limits k e rows
unfolding within_limits
within-told k e rows h =
    let a : Bool = leb (length rows) MOST_ROWS in
    let b : Bool = leb (stored_items e rows) MOST_ITEMS in
    let c : Bool = leb (stored_entries e rows) MOST_ENTRIES in
    let x = both (a && b && c) (leb (length (block_of k e rows)) MOST_BYTES) h in
    let y = both (a && b) c x.0 in
    let z = both a b y.0 in
    record {
      total = leb-true (length rows) MOST_ROWS z.0;
      items = leb-true (stored_items e rows) MOST_ITEMS z.1;
      entries = leb-true (stored_entries e rows) MOST_ENTRIES y.1;
      size = leb-true (length (block_of k e rows)) MOST_BYTES x.1;
    }

no_bytes : (k : Kind) → plain_of k [] ≡ []
unfolding plain_of joined ends_from
no_bytes (Fixed p) = refl
no_bytes (Char w) = refl
no_bytes (Blob text) = refl

pub none_within : (k : Kind) (e : Encoding) → within_limits k e [] ≡ true
unfolding within_limits stored_items stored_entries block_of nullable_of bitmap_of bitmap_length places run_length_of runs_of dictionary_of key_block_of keys_of entries_of entries_after
none_within k Plain = rw (no_bytes k)
none_within k Nullable = rw (no_bytes k)
none_within k RunLength = refl
none_within k RunLengthNullable = refl
none_within k Dictionary = rw (no_bytes k)
