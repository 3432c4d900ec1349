-- For the code: a block that meets all rules but 15, taken apart. Assumes nothing.
use Rattle.std.specs.Prelude.{ℕ, zero, suc, List, ◌≡◌, length, Result, Ok, Err, Option, Some, None}
use Rattle.limits.specs.Refusals.{COLUMN}
use Rattle.encode.specs.declared.Kind.{Kind}
use Rattle.format.specs.declared.Column.{Column}
use Rattle.format.specs.declared.Encoding.TheVariants.{Dictionary}
use Rattle.format.specs.Blocks.{column, column_of}
use Rattle.format.specs.Opening.{head_of}
use Rattle.anatomy.specs.declared.Parts.{Parts}
use Rattle.anatomy.specs.Parts.{parts_of}
use Rattle.descriptor.specs.declared.Descriptor.{Descriptor}
use Rattle.damaged.specs.Damaged.{rules_but_15, described_but_15}

unfoldable pub taken_in : ℕ → Option Column → ℕ → List ℕ → Result Parts ℕ
taken_in (suc m) c n b = Err (suc m)
taken_in zero None n b = Err COLUMN
taken_in zero (Some c) n b = Ok (parts_of c.kind Dictionary n (length b) (head_of Dictionary b))

abbrev pub taken_of : Descriptor → List ℕ → Result Parts ℕ
taken_of d b = taken_in (described_but_15 d b) (column_of d.kind d.encoding d.width) d.rows b

-- these are the parts of such a block
pub record Takes (d : Descriptor) (b : List ℕ) (p : Parts) : Type 0 where
  pub kind : Kind
  pub named : column_of d.kind d.encoding d.width ≡ Some (column kind Dictionary)
  pub number : described_but_15 d b ≡ 0
  pub sound : rules_but_15 (Some (column kind Dictionary)) d.rows b ≡ 0
  pub parts : p ≡ parts_of kind Dictionary d.rows (length b) (head_of Dictionary b)
