-- Two lists of rows that give the same block have the same stored form, whatever their lengths, for every pair. Assumes nothing.
use Rattle.std.specs.Prelude.{Some}
use Prim.Native.Nat.{ℕ}
use mathlib.Core.Bool.{true}
use mathlib.Core.List.{List, [], ◌∷◌}
use mathlib.Core.Path.{◌≡◌, refl, sym, ap, ◌∙◌}
use lib.ListN.{length}
use Rattle.encode.specs.declared.Kind.{Kind}
use Rattle.encode.specs.declared.Kind.TheVariants.{Char}
use Rattle.utf8.specs.Utf8.{is_text, after}
use Rattle.plain.specs.Rows.{Row, bytes, bytes_in, fits}
use Rattle.plain.specs.Plain.{joined, item_of, plain_of}
use Rattle.format.specs.declared.Encoding.{Encoding}
use Rattle.format.specs.declared.Encoding.TheVariants.{Plain}
use Rattle.format.specs.Blocks.{column_of, block_of, stored_form, column}
use Rattle.format.specs.Opening.{open_number, rows_of}
use Rattle.format.specs.Sizes.{stored_items, stored_entries, within_limits, all_fit, accepted}
use Rattle.block_laws.proofs.Blocks.{our-blocks-open, our-blocks-hold}
use Rattle.block_laws.proofs.Counts.{one-row-count}

-- A char of width 0 is none of the pairs: one empty row and no rows would be the same block.
pub width-0-tells-nothing :
    (accepted (Char 0) Plain (bytes [] ∷ []) ≡ true)
    × (accepted (Char 0) Plain [] ≡ true)
    × (block_of (Char 0) Plain (bytes [] ∷ []) ≡ block_of (Char 0) Plain [])
unfolding accepted all_fit within_limits stored_items stored_entries fits is_text after block_of plain_of joined item_of bytes_in
width-0-tells-nothing = (refl, refl, refl)

-- So the pair is named by its numbers.
module _ (kind encoding width : ℕ) (k : Kind) (e : Encoding) (c : column_of kind encoding width ≡ Some (column k e)) (xs ys : List Row)
    (a : accepted k e xs ≡ true) (b : accepted k e ys ≡ true) (same : block_of k e xs ≡ block_of k e ys) where
  pub same-block-same-length : length xs ≡ length ys
  same-block-same-length =
      one-row-count kind encoding width (length xs) (length ys) (block_of k e xs)
      (our-blocks-open k e xs a kind encoding width c)
      (ap (open_number kind encoding width (length ys)) same ∙ our-blocks-open k e ys b kind encoding width c)

  pub same-block-same-form : stored_form k e xs ≡ stored_form k e ys
  same-block-same-form =
      sym (our-blocks-hold k e xs a)
      ∙ ap (λ (n : ℕ). rows_of k e n (block_of k e xs)) same-block-same-length
      ∙ ap (rows_of k e (length ys)) same
      ∙ our-blocks-hold k e ys b
