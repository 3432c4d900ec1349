-- Demand 3 for one column of any sheet file: read by any calls, it hands out exactly its unskipped rows, in order, up to the place reached. Assumes nothing.
use Prim.Native.Nat.{ℕ}
use native.Mathlib.Omega.{arith}
use mathlib.Core.List.{List}
use mathlib.Core.Path.{◌≡◌, sym, ap, ◌∙◌}
use Rattle.std.specs.Prelude.{Result, Ok, Some}
use Rattle.encode.specs.declared.Kind.{Kind}
use Rattle.format.specs.declared.Encoding.{Encoding}
use Rattle.format.specs.Blocks.{column_of, column}
use Rattle.format.specs.Opening.{open_number, rows_of}
use Rattle.block.specs.declared.Reader.{Reader}
use Rattle.block.specs.Reading.{opened}
use Rattle.block.specs.Calls.{Call, play, play_opened}
use Rattle.reading_laws.specs.Calls.{expected, handed_out, unskipped}
use Rattle.reading_laws.proofs.Calls.{any-calls, expected-in-order}
use Rattle.reading_laws.proofs.Consequences.{opened-by-number}
use Rattle.descriptor.specs.declared.Descriptor.{Descriptor}
use Rattle.sheet.specs.declared.Found.{Found}
use Rattle.sheet.specs.Sheet.{entry_at, descriptor_in, named_by, column_found, column_part}
use Rattle.sheet_laws.proofs.Cases.{Case, opens, refuses, case, opened-fields, part-named}

-- a block that gave a reader, read by any calls
pub opened-read :
    (kind encoding width n : ℕ) (b : List ℕ) (r : Reader) → opened kind encoding width n b ≡ Ok r
    → (k : Kind) (e : Encoding) → column_of kind encoding width ≡ Some (column k e)
    → (cs : List Call) → play r b cs ≡ expected k (rows_of k e n b) cs
unfolding play_opened
opened-read kind encoding width n b r o k e c cs =
    let z : open_number kind encoding width n b ≡ 0 = (opened-by-number kind encoding width n b).0 (r, o) in
    ap (λ (x : Result Reader ℕ). play_opened x b cs) (sym o) ∙ any-calls kind encoding width n b k e z c cs

module _ (f : List ℕ) (j : ℕ) (there : (column_found f j).number ≡ 0) where
  abbrev d : Descriptor
  d = descriptor_in (entry_at j f)

  module _ (k : Kind) (e : Encoding) (named : column_of d.kind d.encoding d.width ≡ Some (column k e)) where
    pub column-read : (cs : List Call) → play (column_found f j).reader (column_part f j) cs ≡ expected k (rows_of k e d.rows (column_part f j)) cs
    column-read cs = go (case f j)
      where
        go : Case f j → play (column_found f j).reader (column_part f j) cs ≡ expected k (rows_of k e d.rows (column_part f j)) cs
        go (opens z r o q) =
            rw (part-named f j z, q)
            (opened-read d.kind d.encoding d.width d.rows (named_by (entry_at j f) f) r (opened-fields d (named_by (entry_at j f) f) r o) k e named cs)
        go (refuses m h q) = absurd (omega (arith, rw q at there))

    pub column-rows-in-order : (cs : List Call)
        → let xs = play (column_found f j).reader (column_part f j) cs in handed_out xs ≡ unskipped (rows_of k e d.rows (column_part f j)) xs
    column-rows-in-order cs = rw (column-read cs) (expected-in-order k (rows_of k e d.rows (column_part f j)) cs)
