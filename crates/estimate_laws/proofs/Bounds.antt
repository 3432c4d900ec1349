-- How far the estimate is from the finished length, for every kind, every encoding and every list of rows: neither must the rows fit nor be within
-- the limits. Assumes nothing.
use Prim.Native.Nat.{◌+◌}
use native.Mathlib.Omega.{arith}
use mathlib.Core.Bool.{true, false}
use mathlib.Core.List.{List, []}
use mathlib.Core.Path.{◌≡◌, sym}
use lib.ListN.{length, length-append, length-map}
use Rattle.encode.specs.declared.Kind.{Kind}
use Rattle.encode.proofs.Bools.{clash}
use Rattle.plain.specs.Rows.{Row}
use Rattle.plain.specs.Plain.{plain_of}
use Rattle.nullable.specs.Nullable.{nullable_of}
use Rattle.nullable.proofs.Bits.{length-bitmap}
use Rattle.nullable.proofs.Parts.{length-block}
use Rattle.rle.specs.RunLength.{runs_of, run_length_of}
use Rattle.dict.specs.Dictionary.{i32, entries_of, key_of, key_block_of, dictionary_of}
use Rattle.format.specs.declared.Encoding.{Encoding}
use Rattle.format.specs.declared.Encoding.TheVariants.{Plain, Nullable, RunLength, RunLengthNullable, Dictionary}
use Rattle.format.specs.Blocks.{block_of}
use Rattle.format.specs.Sizes.{keys_of, plain_size, nullable_size, run_length_size, estimate_of, stored_items}
use Rattle.needs.specs.Needs.{coded}
use Rattle.estimate_laws.specs.Bounds.{beyond, most, least, AtMost, AtLeast, SomeRows, Exact}
use Rattle.estimate_laws.proofs.Inner.{runs-at-most, runs-at-least}

-- ---- inner blocks: a plain one is estimated right, and a nullable one without its bitmap's length
plain-told : (k : Kind) (rows : List Row) → length (plain_of k rows) ≡ plain_size k rows + 0
unfolding plain_size
plain-told k rows = omega arith

nullable-told : (k : Kind) (rows : List Row) → length (nullable_of k rows) ≡ nullable_size k rows + 4
unfolding nullable_size plain_size
nullable-told k rows = omega (arith, length-block k rows, length-bitmap rows)

-- ---- a dictionary: its head, the run-length block of its keys, and its entries
dictionary-told :
    (k : Kind) (rows : List Row)
    → length (dictionary_of k rows) ≡ 12 + length (run_length_of (plain_of i32) (keys_of rows)) + plain_size k (entries_of rows)
unfolding dictionary_of key_block_of keys_of plain_size
dictionary-told k rows = omega (arith, length-append (key_block_of rows) (plain_of k (entries_of rows)))

-- a key a row
some-keys : (rows : List Row) → SomeRows rows → SomeRows (keys_of rows)
unfolding keys_of
some-keys rows some = omega (arith, length-map rows (key_of (entries_of rows)))

-- ---- Not in runs: the finished length itself, of every list.
pub exact : (k : Kind) (e : Encoding) (rows : List Row) → coded e ≡ false → Exact k e rows
unfolding coded beyond block_of estimate_of
exact k Plain rows h = plain-told k rows
exact k Nullable rows h = nullable-told k rows
exact k RunLength rows h = clash h
exact k RunLengthNullable rows h = clash h
exact k Dictionary rows h = clash h

-- ---- In runs: at most, of every list; a room of so many bytes is enough also of no rows.
pub at_most : (k : Kind) (e : Encoding) (rows : List Row) → coded e ≡ true → AtMost k e rows
unfolding coded beyond most block_of estimate_of stored_items
at_most k Plain rows h = clash (sym h)
at_most k Nullable rows h = clash (sym h)
at_most k RunLength rows h = omega (arith, runs-at-most (plain_of k) (plain_size k) 0 (plain-told k) rows)
at_most k RunLengthNullable rows h = omega (arith, runs-at-most (nullable_of k) (nullable_size k) 4 (nullable-told k) rows)
at_most k Dictionary rows h = omega (arith, dictionary-told k rows, runs-at-most (plain_of i32) (plain_size i32) 0 (plain-told i32) (keys_of rows))

-- And at least, of every list with a row.
pub at_least : (k : Kind) (e : Encoding) (rows : List Row) → coded e ≡ true → SomeRows rows → AtLeast k e rows
unfolding coded beyond least block_of estimate_of stored_items
at_least k Plain rows h some = clash (sym h)
at_least k Nullable rows h some = clash (sym h)
at_least k RunLength rows h some = omega (arith, runs-at-least (plain_of k) (plain_size k) 0 (plain-told k) rows some)
at_least k RunLengthNullable rows h some = omega (arith, runs-at-least (nullable_of k) (nullable_size k) 4 (nullable-told k) rows some)
at_least k Dictionary rows h some =
    omega (arith, dictionary-told k rows, runs-at-least (plain_of i32) (plain_size i32) 0 (plain-told i32) (keys_of rows) (some-keys rows some))

-- With none it is false: the block has none of the bytes that the estimate has for the numbers before the counts.
pub not-without-rows : (k : Kind) (e : Encoding) → coded e ≡ true → AtLeast k e [] → ⊥
unfolding coded beyond least block_of estimate_of stored_items run_length_of runs_of run_length_size keys_of
not-without-rows k Plain h l = clash (sym h)
not-without-rows k Nullable h l = clash (sym h)
not-without-rows k RunLength h l = omega arith
not-without-rows k RunLengthNullable h l = omega arith
not-without-rows k Dictionary h l = omega (arith, dictionary-told k [])
