-- For the code: a block that was opened, taken apart. Assumes nothing.
use Rattle.std.specs.Prelude.{ℕ, zero, suc, List, ◌≡◌, length, Result, Ok, Err, Option, Some, None}
use Rattle.limits.specs.Refusals.{COLUMN}
use Rattle.encode.specs.declared.Kind.{Kind}
use Rattle.format.specs.declared.Encoding.{Encoding}
use Rattle.format.specs.declared.Column.{Column}
use Rattle.format.specs.Blocks.{column_of, column}
use Rattle.format.specs.Opening.{head_of, column_number}
use Rattle.anatomy.specs.declared.Parts.{Parts}
use Rattle.anatomy.specs.Parts.{parts_of}
use Rattle.descriptor.specs.declared.Descriptor.{Descriptor}
use Rattle.descriptor.specs.Descriptor.{described_number}

unfoldable pub side_in : ℕ → Option Column → ℕ → List ℕ → Result Parts ℕ
side_in (suc m) c n b = Err (suc m)
side_in zero None n b = Err COLUMN
side_in zero (Some c) n b = Ok (parts_of c.kind c.encoding n (length b) (head_of c.encoding b))

abbrev pub side_of : Descriptor → List ℕ → Result Parts ℕ
side_of d b = side_in (described_number d b) (column_of d.kind d.encoding d.width) d.rows b

-- these are the parts of a sound block
pub record Opens (d : Descriptor) (b : List ℕ) (p : Parts) : Type 0 where
  pub kind : Kind
  pub encoding : Encoding
  pub named : column_of d.kind d.encoding d.width ≡ Some (column kind encoding)
  pub number : described_number d b ≡ 0
  pub sound : column_number (Some (column kind encoding)) d.rows b ≡ 0
  pub parts : p ≡ parts_of kind encoding d.rows (length b) (head_of encoding b)
