-- 02 (ix), the writer: a file that it wrote opens at every column as that column's block, and at no other; the rows read back; and a column's bytes tell
-- the stored form of its rows. Assumes nothing.
use Rattle.std.specs.Prelude.{Some}
use Prim.Native.Nat.{ℕ, ◌≤◌, ◌<◌}
use native.Mathlib.Omega.{arith}
use mathlib.Core.Bool.{true}
use mathlib.Core.List.{List}
use mathlib.Core.Path.{◌≡◌, sym, ap, ◌∙◌}
use lib.ListN.{length}
use Rattle.limits.specs.Refusals.{NO_COLUMN}
use Rattle.encode.specs.declared.Kind.{Kind}
use Rattle.plain.specs.Rows.{Row}
use Rattle.format.specs.declared.Encoding.{Encoding}
use Rattle.format.specs.Blocks.{column_of, stored_form, column as pair}
use Rattle.format.specs.Sizes.{accepted}
use Rattle.block.specs.declared.Reader.{Reader}
use Rattle.block.specs.Reading.{opened}
use Rattle.block.specs.Calls.{Call, play}
use Rattle.block_laws.proofs.Blocks.{our-blocks-open, our-blocks-hold}
use Rattle.block_laws.proofs.SameBlock.{same-block-same-form}
use Rattle.reading_laws.specs.Calls.{expected}
use Rattle.reading_laws.proofs.Consequences.{opened-by-number}
use Rattle.sheet.specs.declared.Found.{Found}
use Rattle.sheet.specs.Sheet.{found, found_by, column_found, column_part}
use Rattle.sheet.proofs.Answers.{nothing-found}
use Rattle.sheet_writer.specs.Writing.{Filed, write}
use Rattle.sheet_laws.specs.Column.{file_in, columns_of, column, filed_rows, own_opening, place_of}
use Rattle.sheet_laws.proofs.Laid.{laid-found, laid-part, laid_opens, laid-no-other}
use Rattle.sheet_laws.proofs.Written.{file-written, rules-kept}
use Rattle.sheet_laws.proofs.Rows.{opened-read}

module _ (numbers blocks out : List ℕ) (done : (write numbers blocks out).answer.number ≡ 0) where
  abbrev cs : List Filed
  cs = columns_of numbers blocks

  abbrev file : List ℕ
  file = file_in (write numbers blocks out)

  -- Column j is opened as its block alone would be, and the answer tells where that lies.
  pub column-found : (j : ℕ) → j < length cs → column_found file j ≡ found_by (own_opening (column cs j)) (place_of cs j) (length (column cs j).block)
  column-found j h = let k = rules-kept numbers blocks out done in rw (file-written numbers blocks out done) (laid-found cs k.few k.short k.sound j h)

  pub column-part : (j : ℕ) → j < length cs → column_part file j ≡ (column cs j).block
  column-part j h = let k = rules-kept numbers blocks out done in rw (file-written numbers blocks out done) (laid-part cs k.few k.short k.sound j h)

  -- No column of it is refused, and there is no other.
  pub writer-opens : (j : ℕ) → j < length cs → (column_found file j).number ≡ 0
  writer-opens j h = let k = rules-kept numbers blocks out done in rw (file-written numbers blocks out done) (laid_opens cs k.few k.short k.sound j h)

  pub no-other-column : (j : ℕ) → length cs ≤ j → (column_found file j).number ≡ NO_COLUMN
  no-other-column j h = let k = rules-kept numbers blocks out done in rw (file-written numbers blocks out done) (laid-no-other cs k.few k.short j h)

  -- ---- a column of accepted rows
  module _ (kind encoding width : ℕ) (k : Kind) (e : Encoding) (named : column_of kind encoding width ≡ Some (pair k e))
      (j : ℕ) (there : j < length cs) (rows : List Row) (is-accepted : accepted k e rows ≡ true)
      (filed : column cs j ≡ filed_rows kind encoding width k e rows) where
    -- Any calls on it are answered exactly as the stored form of its rows asks.
    pub column-reads-back : (ds : List Call) → play (column_found file j).reader (column_part file j) ds ≡ expected k (stored_form k e rows) ds
    unfolding found_by
    column-reads-back ds =
        let o = (opened-by-number kind encoding width (length rows) (filed_rows kind encoding width k e rows).block).1 (our-blocks-open k e rows is-accepted kind encoding width named) in
        rw (column-found j there, column-part j there, filed, o.1)
        (opened-read kind encoding width (length rows) (filed_rows kind encoding width k e rows).block o.0 o.1 k e named ds)
        ∙ ap (λ (held : List Row). expected k held ds) (our-blocks-hold k e rows is-accepted)

-- Two columns of one kind, width and encoding, in two files or in one, of which the same bytes are kept, hold rows of the same stored form.
module _ (kind encoding width : ℕ) (k : Kind) (e : Encoding) (named : column_of kind encoding width ≡ Some (pair k e)) (xs ys : List Row)
    (xs-accepted : accepted k e xs ≡ true) (ys-accepted : accepted k e ys ≡ true) where
  pub same-column-same-form :
      (numbers blocks out : List ℕ) (done : (write numbers blocks out).answer.number ≡ 0) (i : ℕ) → i < length (columns_of numbers blocks)
      → column (columns_of numbers blocks) i ≡ filed_rows kind encoding width k e xs
      → (numbers' blocks' out' : List ℕ) (done' : (write numbers' blocks' out').answer.number ≡ 0) (j : ℕ) → j < length (columns_of numbers' blocks')
      → column (columns_of numbers' blocks') j ≡ filed_rows kind encoding width k e ys
      → column_part (file_in (write numbers blocks out)) i ≡ column_part (file_in (write numbers' blocks' out')) j
      → stored_form k e xs ≡ stored_form k e ys
  same-column-same-form numbers blocks out done i i-there xs-filed numbers' blocks' out' done' j j-there ys-filed same =
      same-block-same-form kind encoding width k e named xs ys xs-accepted ys-accepted
      (sym (ap (λ (c : Filed). c.block) xs-filed)
      ∙ sym (column-part numbers blocks out done i i-there)
      ∙ same
      ∙ column-part numbers' blocks' out' done' j j-there
      ∙ ap (λ (c : Filed). c.block) ys-filed)
