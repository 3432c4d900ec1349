-- Our blocks are sound and hold what was given, for every pair of a kind and an encoding. Assumes nothing.
use Rattle.std.specs.Prelude.{Option, Some}
use Prim.Native.Nat.{ℕ, ◌^◌, ◌≤◌, ◌<◌}
use native.Mathlib.Omega.{arith}
use mathlib.Core.Bool.{true}
use mathlib.Core.List.{List, []}
use mathlib.Core.Path.{◌≡◌, refl, ap, ◌∙◌}
use lib.ListN.{length, length-map}
use Rattle.encode.specs.declared.Kind.{Kind}
use Rattle.encode.specs.declared.Kind.TheVariants.{Fixed, Char, Blob}
use Rattle.limits.specs.Limits.{MOST_ITEMS}
use Rattle.plain.specs.Each.{Each}
use Rattle.plain.specs.Rows.{Row, null}
use Rattle.plain.specs.Plain.{joined, ends_from, plain_of, plain_number, plain_row}
use Rattle.nullable.specs.Nullable.{bitmap_length, nullable_of, nullable_number, nullable_row}
use Rattle.nullable.proofs.Parts.{length-block}
use Rattle.rle.specs.RunLength.{runs_of, run_length_of}
use Rattle.format.specs.declared.Encoding.{Encoding}
use Rattle.format.specs.declared.Encoding.TheVariants.{Plain, Nullable, RunLength, RunLengthNullable, Dictionary}
use Rattle.format.specs.declared.Column.{Column}
use Rattle.format.specs.Blocks.{column_of, block_of, cut, stored_row, stored_form, column}
use Rattle.format.specs.Opening.{rules_of, most_rows, column_number, open_number, head_of, row_at, counts_in, places_of, rows_of}
use Rattle.format.specs.Sizes.{run_rows, stored_items, stored_entries, accepted}
use Rattle.format.proofs.Within.{Limits}
use Rattle.format.proofs.Sound.{column-rules}
use Rattle.block_laws.proofs.Lists.{over-list}
use Rattle.block_laws.proofs.Plains.{Fits, kept, plain-opens, plain_row_lem}
use Rattle.block_laws.proofs.Nullables.{nullable-opens, nullable-row}
use Rattle.block_laws.proofs.Runs.{each-run}
use Rattle.block_laws.proofs.RunLengths.{inner-small, run-length-opens, run-length-rows}
use Rattle.block_laws.proofs.Dictionaries.{dictionary-opens, dictionary-rows}
use Rattle.block_laws.proofs.Accepted.{accepted-fits, accepted-limits}

-- ---- inner blocks of no items
no_items : (k : Kind) → length (plain_of k []) ≡ 0
unfolding plain_of joined ends_from
no_items (Fixed p) = refl
no_items (Char w) = refl
no_items (Blob text) = refl

no-nullable-items : (k : Kind) → length (nullable_of k []) < 2 ^ 32
unfolding bitmap_length
no-nullable-items k = omega (arith, length-block k [], no_items k)

-- ---- by encoding: the rules, and the rows
module _ (k : Kind) (rows : List Row) (f : Each (Fits k) rows) where
  module _ (l : Limits k Plain rows) where
    plain-small : length (plain_of k rows) < 2 ^ 32
    unfolding block_of
    plain-small = omega (arith, l.size)

    plain-rules : rules_of k Plain (length rows) (block_of k Plain rows) ≡ 0
    unfolding rules_of block_of
    plain-rules = plain-opens k rows f plain-small

    plain-holds : rows_of k Plain (length rows) (block_of k Plain rows) ≡ stored_form k Plain rows
    unfolding rows_of row_at places_of stored_form stored_row block_of
    plain-holds = over-list (plain_row k (length rows) (plain_of k rows)) (kept k) rows null (plain_row_lem k rows f plain-small)

  module _ (l : Limits k Nullable rows) where
    few-rows : length rows ≤ MOST_ITEMS
    unfolding stored_items
    few-rows = l.items

    nullable-small : length (nullable_of k rows) < 2 ^ 32
    unfolding block_of
    nullable-small = omega (arith, l.size)

    nullable-rules : rules_of k Nullable (length rows) (block_of k Nullable rows) ≡ 0
    unfolding rules_of block_of
    nullable-rules = nullable-opens k rows f few-rows nullable-small

    nullable-holds : rows_of k Nullable (length rows) (block_of k Nullable rows) ≡ stored_form k Nullable rows
    unfolding rows_of row_at places_of stored_form stored_row block_of
    nullable-holds =
        over-list (nullable_row k (length rows) (nullable_of k rows)) (cut k) rows null (nullable-row k rows f few-rows nullable-small)

  -- the items of the runs
  run-items : Each (Fits k) (run_rows rows)
  run-items = each-run (Fits k) rows f

  module _ (l : Limits k RunLength rows) where
    few-runs : length (runs_of rows) ≤ MOST_ITEMS
    unfolding stored_items
    few-runs = l.items

    runs-small : length (run_length_of (plain_of k) rows) < 2 ^ 32
    unfolding block_of
    runs-small = omega (arith, l.size)

    run-items-small : length (plain_of k (run_rows rows)) < 2 ^ 32
    run-items-small = inner-small (plain_of k) rows (omega (arith, no_items k)) few-runs runs-small

    run-length-rules : rules_of k RunLength (length rows) (block_of k RunLength rows) ≡ 0
    unfolding rules_of block_of
    run-length-rules =
        run-length-opens (plain_of k) (plain_number k) rows few-runs runs-small (plain-opens k (run_rows rows) run-items run-items-small)

    run-length-holds : rows_of k RunLength (length rows) (block_of k RunLength rows) ≡ stored_form k RunLength rows
    unfolding rows_of row_at places_of counts_in head_of stored_form stored_row block_of
    run-length-holds =
        run-length-rows (plain_of k) (plain_row k) (kept k) rows few-runs runs-small (plain_row_lem k (run_rows rows) run-items run-items-small)

  module _ (l : Limits k RunLengthNullable rows) where
    few-nullable-runs : length (runs_of rows) ≤ MOST_ITEMS
    unfolding stored_items
    few-nullable-runs = l.items

    nullable-runs-small : length (run_length_of (nullable_of k) rows) < 2 ^ 32
    unfolding block_of
    nullable-runs-small = omega (arith, l.size)

    few-run-items : length (run_rows rows) ≤ MOST_ITEMS
    unfolding run_rows
    few-run-items = omega (arith, few-nullable-runs, length-map (runs_of rows) (λ r. r.row))

    nullable-items-small : length (nullable_of k (run_rows rows)) < 2 ^ 32
    nullable-items-small = inner-small (nullable_of k) rows (no-nullable-items k) few-nullable-runs nullable-runs-small

    run-length-nullable-rules : rules_of k RunLengthNullable (length rows) (block_of k RunLengthNullable rows) ≡ 0
    unfolding rules_of block_of
    run-length-nullable-rules =
        run-length-opens (nullable_of k) (nullable_number k) rows few-nullable-runs nullable-runs-small
        (nullable-opens k (run_rows rows) run-items few-run-items nullable-items-small)

    run-length-nullable-holds : rows_of k RunLengthNullable (length rows) (block_of k RunLengthNullable rows) ≡ stored_form k RunLengthNullable rows
    unfolding rows_of row_at places_of counts_in head_of stored_form stored_row block_of
    run-length-nullable-holds =
        run-length-rows (nullable_of k) (nullable_row k) (cut k) rows few-nullable-runs nullable-runs-small
        (nullable-row k (run_rows rows) run-items few-run-items nullable-items-small)

  module _ (l : Limits k Dictionary rows) where
    dictionary-rules : rules_of k Dictionary (length rows) (block_of k Dictionary rows) ≡ 0
    unfolding rules_of block_of stored_items stored_entries
    dictionary-rules = dictionary-opens k rows f l.items l.entries (omega (arith, l.size))

    dictionary-holds : rows_of k Dictionary (length rows) (block_of k Dictionary rows) ≡ stored_form k Dictionary rows
    unfolding rows_of row_at places_of counts_in head_of stored_form stored_row block_of stored_items stored_entries
    dictionary-holds = dictionary-rows k rows f l.items l.entries (omega (arith, l.size))

-- ---- every encoding
rules-kept :
    (k : Kind) (e : Encoding) (rows : List Row) → Each (Fits k) rows → Limits k e rows → rules_of k e (length rows) (block_of k e rows) ≡ 0
rules-kept k Plain rows f l = plain-rules k rows f l
rules-kept k Nullable rows f l = nullable-rules k rows f l
rules-kept k RunLength rows f l = run-length-rules k rows f l
rules-kept k RunLengthNullable rows f l = run-length-nullable-rules k rows f l
rules-kept k Dictionary rows f l = dictionary-rules k rows f l

rows-held :
    (k : Kind) (e : Encoding) (rows : List Row) → Each (Fits k) rows → Limits k e rows
    → rows_of k e (length rows) (block_of k e rows) ≡ stored_form k e rows
rows-held k Plain rows f l = plain-holds k rows f l
rows-held k Nullable rows f l = nullable-holds k rows f l
rows-held k RunLength rows f l = run-length-holds k rows f l
rows-held k RunLengthNullable rows f l = run-length-nullable-holds k rows f l
rows-held k Dictionary rows f l = dictionary-holds k rows f l

few-enough : (k : Kind) (e : Encoding) (rows : List Row) → Limits k e rows → length rows ≤ most_rows e
unfolding most_rows stored_items
few-enough k Plain rows l = l.items
few-enough k Nullable rows l = l.items
few-enough k RunLength rows l = l.total
few-enough k RunLengthNullable rows l = l.total
few-enough k Dictionary rows l = l.total

module _ (k : Kind) (e : Encoding) (rows : List Row) (a : accepted k e rows ≡ true) where
  pub our-blocks-sound : column_number (Some (column k e)) (length rows) (block_of k e rows) ≡ 0
  our-blocks-sound =
      let l : Limits k e rows = accepted-limits k e rows a in
      column-rules k e (length rows) (block_of k e rows) l.size (few-enough k e rows l)
      ∙ rules-kept k e rows (accepted-fits k e rows a) l

  -- Opening takes the block of accepted rows, for each pair by its numbers.
  pub our-blocks-open :
      (kind encoding width : ℕ) → column_of kind encoding width ≡ Some (column k e) → open_number kind encoding width (length rows) (block_of k e rows) ≡ 0
  unfolding open_number
  our-blocks-open kind encoding width c = ap (λ (o : Option Column). column_number o (length rows) (block_of k e rows)) c ∙ our-blocks-sound

  -- And the rows of that block are the accepted rows in their stored form.
  pub our-blocks-hold : rows_of k e (length rows) (block_of k e rows) ≡ stored_form k e rows
  our-blocks-hold = rows-held k e rows (accepted-fits k e rows a) (accepted-limits k e rows a)
