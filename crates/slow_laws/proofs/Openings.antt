-- What opening's number tells: of 0 the column, its rules and the reader; of any other the refusal. Assumes nothing.
use Prim.Native.Nat.{ℕ, zero, suc}
use native.Mathlib.Omega.{arith}
use mathlib.Core.Bool.{Bool, true, false, cond}
use mathlib.Core.List.{List}
use mathlib.Core.Path.{◌≡◌, refl}
use lib.Dec.{eqb}
use Rattle.std.specs.Prelude.{Ok, Err, Option, Some, None}
use Rattle.limits.specs.Refusals.{COLUMN}
use Rattle.encode.specs.declared.Kind.{Kind}
use Rattle.format.specs.declared.Encoding.{Encoding}
use Rattle.format.specs.declared.Column.{Column}
use Rattle.format.specs.Blocks.{column_of, column}
use Rattle.format.specs.Opening.{column_number, open_number}
use Rattle.block.specs.declared.Reader.{Reader}
use Rattle.block.specs.Reading.{opened_by, opened}
use Rattle.descriptor.specs.declared.Descriptor.{Descriptor}
use Rattle.descriptor.specs.Descriptor.{described_number, described_opened}
use Rattle.slow_laws.specs.Agreeing.{fresh}

-- by a number and a zero bit
no-zero-bit : (t : Bool) (m : ℕ) → cond t m COLUMN ≡ 0 → m ≡ 0
no-zero-bit true m z = z
no-zero-bit false m z = absurd (omega arith)

opened-so : (t : Bool) (m : ℕ) (r : Reader) → cond t m COLUMN ≡ 0 → cond t (opened_by m r) (Err COLUMN) ≡ Ok r
unfolding opened_by
opened-so true zero r z = refl
opened-so true (suc m) r z = absurd (omega arith)
opened-so false m r z = absurd (omega arith)

refused-so : (t : Bool) (m : ℕ) (r : Reader) → (cond t m COLUMN ≡ 0 → ⊥) → cond t (opened_by m r) (Err COLUMN) ≡ Err (cond t m COLUMN)
unfolding opened_by
refused-so true zero r z = absurd (z refl)
refused-so true (suc m) r z = refl
refused-so false m r z = refl

module _ (d : Descriptor) (b : List ℕ) where
  abbrev pub named : Option Column
  named = column_of d.kind d.encoding d.width

  abbrev rules : ℕ
  rules = open_number d.kind d.encoding d.width d.rows b

  -- a number that isn't 0 is the refusal of the opening
  pub number-refuses : (described_number d b ≡ 0 → ⊥) → described_opened d b ≡ Err (described_number d b)
  unfolding described_opened described_number opened
  number-refuses = refused-so (eqb d.zero 0) rules (fresh d b)

  module _ (z : described_number d b ≡ 0) where
    -- the fresh reader is the one that opening gives
    pub fresh-opened : described_opened d b ≡ Ok (fresh d b)
    unfolding described_opened described_number opened
    fresh-opened = opened-so (eqb d.zero 0) rules (fresh d b) z

    -- the column, whose rules the block keeps
    pub record Kept : Type 0 where
      pub kind : Kind
      pub encoding : Encoding
      pub sound : column_number (Some (column kind encoding)) d.rows b ≡ 0
      pub column : named ≡ Some (column kind encoding)

    pub kept : Kept
    unfolding described_number open_number column_number
    kept = go named refl (no-zero-bit (eqb d.zero 0) rules z)
      where
        go : (c : Option Column) → named ≡ c → column_number c d.rows b ≡ 0 → Kept
        go None q s = absurd (omega (arith, s))
        go (Some c) q s = record { kind = c.kind; encoding = c.encoding; column = q; sound = s }
