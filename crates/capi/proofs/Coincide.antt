-- Two results that keep a call's promise are the same, for each call by its name: the promise leaves nothing open, neither a number, nor a field of a record,
-- nor a byte of an area. Of append it is said in builder/proofs/Coincide. Assumes nothing.
use Prim.Native.Nat.{ℕ}
use mathlib.Core.Path.{◌≡◌, sym, ◌∙◌}
use mathlib.Core.Bool.{Bool}
use mathlib.Core.List.{List}
use Rattle.block.specs.declared.Reader.{Reader}
use Rattle.block.specs.declared.Opening.{Opening}
use Rattle.block.specs.declared.Given.{Given}
use Rattle.block.specs.declared.Left.{Left}
use Rattle.block.specs.Reading.{Areas}
use Rattle.block.proofs.Coincide.{same-areas}
use Rattle.append.specs.Appending.{Lent}
use Rattle.builder.specs.declared.Builder.{Builder}
use Rattle.builder.specs.declared.Finished.{Finished}
use Rattle.builder.specs.declared.Estimated.{Estimated}
use Rattle.builder.specs.declared.Asked.{Asked}
use Rattle.sheet.specs.declared.Found.{Found}
use Rattle.sheet_writer.specs.declared.Written.{Written}
use Rattle.descriptor.specs.declared.Descriptor.{Descriptor}
use Rattle.comparing.specs.declared.Compared.{Compared}
use Rattle.salvaging.specs.declared.Salvaged.{Salvaged}
use Rattle.slow_answer.specs.declared.RowGiven.{RowGiven}
use Rattle.capi.specs.declared.building.Creation.{Creation}
use Rattle.capi.specs.Promises.{Opens, Reads, Remains, Creates, Finishes, Estimates, Asks, OpensColumn, WritesSheet, Compares, Salvages, GivesRow}

-- ---- reading
pub one-opening : (kind encoding width rows : ℕ) (block : List ℕ) (x y : Opening) → Opens kind encoding width rows block x → Opens kind encoding width rows block y → x ≡ y
one-opening kind encoding width rows block x y p q = p ∙ sym q

pub one-read : (reader : Reader) (block : List ℕ) (skip size : ℕ) (lent : Areas) (x y : Given) (a b : Areas)
    → Reads reader block skip size lent x a → Reads reader block skip size lent y b → (x ≡ y) × (a ≡ b)
one-read reader block skip size lent x y a b p q = (p.0 ∙ sym q.0, same-areas a b (p.1 ∙ sym q.1) (p.2 ∙ sym q.2) (p.3 ∙ sym q.3) (p.4 ∙ sym q.4))

pub one-remaining : (reader : Reader) (x y : Left) → Remains reader x → Remains reader y → x ≡ y
one-remaining reader x y p q = p ∙ sym q

-- ---- building
pub one-creation : (kind encoding width target key : ℕ) (x y : Creation)
    → Creates kind encoding width target key x → Creates kind encoding width target key y → x ≡ y
one-creation kind encoding width target key x y p q = p ∙ sym q

pub one-finish : (builder : Builder) (lent : Lent) (room : List ℕ) (x y : Finished) (a b : List ℕ)
    → Finishes builder lent room x a → Finishes builder lent room y b → (x ≡ y) × (a ≡ b)
one-finish builder lent room x y a b p q = (p.0 ∙ sym q.0, p.1 ∙ sym q.1)

pub one-estimate : (builder : Builder) (x y : Estimated) → Estimates builder x → Estimates builder y → x ≡ y
one-estimate builder x y p q = p ∙ sym q

pub one-should-finish : (builder : Builder) (present : Bool) (len : ℕ) (x y : Asked) → Asks builder present len x → Asks builder present len y → x ≡ y
one-should-finish builder present len x y p q = p ∙ sym q

-- ---- sheet files
pub one-column : (file : List ℕ) (column : ℕ) (x y : Found) → OpensColumn file column x → OpensColumn file column y → x ≡ y
one-column file column x y p q = p ∙ sym q

pub one-sheet : (columns blocks room : List ℕ) (x y : Written) (a b : List ℕ)
    → WritesSheet columns blocks room x a → WritesSheet columns blocks room y b → (x ≡ y) × (a ≡ b)
one-sheet columns blocks room x y a b p q = (p.0 ∙ sym q.0, p.1 ∙ sym q.1)

-- ---- two blocks
pub one-compare : (a : Descriptor) (first : List ℕ) (b : Descriptor) (second firsts lasts : List ℕ) (x y : Compared) (f g l m : List ℕ)
    → Compares a first b second firsts lasts x f l → Compares a first b second firsts lasts y g m → (x ≡ y) × (f ≡ g) × (l ≡ m)
one-compare a first b second firsts lasts x y f g l m p q = (p.0 ∙ sym q.0, p.1 ∙ sym q.1, p.2 ∙ sym q.2)

-- ---- a damaged block
pub one-salvage : (d : Descriptor) (block firsts lasts room : List ℕ) (x y : Salvaged) (f g l m a b : List ℕ)
    → Salvages d block firsts lasts room x f l a → Salvages d block firsts lasts room y g m b → (x ≡ y) × (f ≡ g) × (l ≡ m) × (a ≡ b)
one-salvage d block firsts lasts room x y f g l m a b p q =
    (p.0 ∙ sym q.0, p.1 ∙ sym q.1, p.2 ∙ sym q.2, p.3 ∙ sym q.3)

-- ---- the second engine
pub one-row : (d : Descriptor) (block : List ℕ) (row : ℕ) (lent : Areas) (x y : RowGiven) (a b : Areas)
    → GivesRow d block row lent x a → GivesRow d block row lent y b → (x ≡ y) × (a ≡ b)
one-row d block row lent x y a b p q = (p.0 ∙ sym q.0, p.1 ∙ sym q.1)
