-- A block opened by its descriptor: its number, its reader and its parts. Assumes nothing.
use Prim.Native.Nat.{ℕ, zero, suc, ◌≤◌, ◌<◌}
use native.Mathlib.Omega.{arith}
use mathlib.Core.Bool.{Bool, true, false, cond}
use mathlib.Core.List.{List}
use mathlib.Core.Path.{◌≡◌, refl, sym, ap, ◌∙◌}
use lib.Dec.{eqb}
use lib.ListN.{length}
use Rattle.limits.specs.Refusals.{COLUMN}
use Rattle.encode.specs.declared.Kind.{Kind}
use Rattle.format.specs.declared.Encoding.{Encoding}
use Rattle.format.specs.declared.Column.{Column}
use Rattle.format.specs.declared.Head.{Head}
use Rattle.format.specs.Blocks.{column_of, column}
use Rattle.format.specs.Opening.{head_of, column_number, open_number}
use Rattle.anatomy.specs.declared.Parts.{Parts}
use Rattle.anatomy.specs.Parts.{parts_of, Right}
use Rattle.block.specs.declared.Reader.{Reader}
use Rattle.block.specs.Reading.{reader_at, head_in, opened_by, opened}
use Rattle.reading_laws.proofs.RowsLeft.{start}
use Rattle.descriptor.specs.declared.Descriptor.{Descriptor}
use Rattle.descriptor.specs.Descriptor.{described_number, described_opened}
use Rattle.std.specs.Prelude.{Result, Ok, Err, Option, Some, None}
use Rattle.comparing.specs.Taken.{side_in, side_of, Opens}

-- an opening by a number and a zero bit
by_bit : (t : Bool) (m : ℕ) (r : Reader) → cond t (opened_by m r) (Err COLUMN) ≡ opened_by (cond t m COLUMN) r
unfolding opened_by
by_bit true m r = refl
by_bit false m r = refl

by-column : (t : Bool) (m : ℕ) → cond t m COLUMN ≡ 0 → m ≡ 0
by-column true m z = z
by-column false m z = absurd (omega arith)

module _ (d : Descriptor) (b : List ℕ) where
  abbrev pair : Option Column
  pair = column_of d.kind d.encoding d.width

  abbrev first : Reader
  first = reader_at d.kind d.encoding d.width d.rows (length b) (head_in pair b)

  opened-told : described_opened d b ≡ opened_by (described_number d b) first
  unfolding described_opened described_number opened
  opened-told = by_bit (eqb d.zero 0) (open_number d.kind d.encoding d.width d.rows b) first

  -- ---- refused
  pub side-refused : {m : ℕ} → Err m ≡ described_opened d b → Err m ≡ side_of d b
  unfolding opened_by side_in
  side-refused {m} h = go (described_number d b) refl (h ∙ opened-told)
    where
      go : (n : ℕ) → described_number d b ≡ n → Err m ≡ opened_by n first → Err m ≡ side_of d b
      go zero z q = let o : ◌≡◌ {A = ℕ} 0 1 = cc in absurd (omega arith)
      go (suc n) z q = let e : m ≡ suc n = cc in rw z (ap Err e)

  -- ---- opened
  module _ {o : Reader} (done : Ok o ≡ described_opened d b) where
    told : (described_number d b ≡ 0) × (o ≡ first)
    told = go (described_number d b) refl (done ∙ opened-told)
      where
        go : (n : ℕ) → described_number d b ≡ n → Ok o ≡ opened_by n first → (described_number d b ≡ 0) × (o ≡ first)
        go zero z q = (z, unfold opened_by in cc)
        go (suc n) z q = let e : ◌≡◌ {A = ℕ} 0 1 = unfold opened_by in cc in absurd (omega arith)

    pub side-unknown : {c : Option Column} → c ≡ pair → c ≡ None → Err COLUMN ≡ side_of d b
    unfolding side_in
    side-unknown p q = rw (told.0, ← p, q)

    module _ {c : Option Column} {k : Kind} {e : Encoding} (p : c ≡ pair) (q : c ≡ Some (column k e)) where
      sound : column_number (Some (column k e)) d.rows b ≡ 0
      unfolding described_number open_number
      sound = rw (sym p ∙ q) at (by-column (eqb d.zero 0) (open_number d.kind d.encoding d.width d.rows b) told.0)

      reader-is : o ≡ reader_at d.kind d.encoding d.width d.rows (length b) (head_of e b)
      unfolding head_in
      reader-is = rw (sym p ∙ q) at told.1

      pub side_right : Right k e o.rows o.len o.head 0
      side_right = rw reader-is (start k d.rows b d.kind d.encoding d.width e (sym p ∙ q) sound).right.numbers

      pub side-whole : {x : Parts} → x ≡ parts_of k e o.rows o.len o.head → Ok x ≡ side_of d b
      unfolding side_in
      side-whole h = rw (told.0, sym p ∙ q) (ap Ok (rw reader-is at h))

-- ---- what a side that was taken tells
module _ (d : Descriptor) (b : List ℕ) where
  abbrev named : Option Column
  named = column_of d.kind d.encoding d.width

  zero_number : described_number d b ≡ 0 → column_number named d.rows b ≡ 0
  unfolding described_number open_number
  zero_number z = by-column (eqb d.zero 0) (open_number d.kind d.encoding d.width d.rows b) z

  never-unknown : named ≡ None → described_number d b ≡ 0 → ⊥
  unfolding column_number
  never-unknown e z = let n : column_number None d.rows b ≡ 0 = rw e at (zero_number z) in omega (arith, n)

  pub taken-whole : {s : Result Parts ℕ} {p : Parts} → s ≡ side_of d b → s ≡ Ok p → Opens d b p
  taken-whole {s} {p} e q = go (described_number d b) refl named refl (sym e ∙ q)
    where
      go : (m : ℕ) → described_number d b ≡ m → (c : Option Column) → named ≡ c → side_in m c d.rows b ≡ Ok p → Opens d b p
      go (suc m) z c n h = let o : ◌≡◌ {A = ℕ} 0 1 = unfold side_in in cc in absurd (omega arith)
      go zero z None n h = absurd (never-unknown n z)
      go zero z (Some c) n h = record {
        kind = c.kind;
        encoding = c.encoding;
        named = n;
        number = z;
        sound = rw n at (zero_number z);
        parts = unfold side_in in cc;
      }

  pub taken_refused : {s : Result Parts ℕ} {e : ℕ} → s ≡ side_of d b → s ≡ Err e → (described_number d b ≡ e) × (0 < e)
  taken_refused {s} {e} p q = go (described_number d b) refl named refl (sym p ∙ q)
    where
      go : (m : ℕ) → described_number d b ≡ m → (c : Option Column) → named ≡ c → side_in m c d.rows b ≡ Err e → (described_number d b ≡ e) × (0 < e)
      go (suc m) z c n h = let o : suc m ≡ e = unfold side_in in cc in (z ∙ o, omega (arith, o))
      go zero z None n h = absurd (never-unknown n z)
      go zero z (Some c) n h = let o : ◌≡◌ {A = ℕ} 0 1 = unfold side_in in cc in absurd (omega arith)
