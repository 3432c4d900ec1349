-- What taking a damaged block apart tells: its parts, or the first rule that it breaks. Assumes nothing.
use Prim.Native.Nat.{ℕ, zero, suc, ◌<◌}
use native.Mathlib.Omega.{arith}
use mathlib.Core.Bool.{Bool, true, false, cond}
use mathlib.Core.List.{List}
use mathlib.Core.Path.{◌≡◌, refl, sym, ap, ◌∙◌}
use lib.Dec.{eqb}
use lib.ListN.{length}
use Rattle.limits.specs.Refusals.{COLUMN}
use Rattle.encode.specs.declared.Kind.{Kind}
use Rattle.format.specs.declared.Encoding.{Encoding}
use Rattle.format.specs.declared.Encoding.TheVariants.{Plain, Nullable, RunLength, RunLengthNullable, Dictionary}
use Rattle.format.specs.declared.Column.{Column}
use Rattle.format.specs.Blocks.{column, column_of}
use Rattle.format.specs.Opening.{head_of}
use Rattle.anatomy.specs.declared.Parts.{Parts}
use Rattle.anatomy.specs.Parts.{parts_of}
use Rattle.descriptor.specs.declared.Descriptor.{Descriptor}
use Rattle.std.specs.Prelude.{Result, Ok, Err, Option, Some, None}
use Rattle.damaged.specs.Damaged.{rules_but_15_in, rules_but_15, described_but_15}
use Rattle.damaged.specs.Taken.{taken_in, taken_of, Takes}

by-column : (t : Bool) (m : ℕ) → cond t m COLUMN ≡ 0 → m ≡ 0
by-column true m z = z
by-column false m z = absurd (omega arith)

-- no rules but a dictionary's give 0
encoding-alone : (k : Kind) (e : Encoding) (n : ℕ) (b : List ℕ) → rules_but_15_in e k n b ≡ 0 → e ≡ Dictionary
unfolding rules_but_15_in
encoding-alone k Plain n b z = absurd (omega arith)
encoding-alone k Nullable n b z = absurd (omega arith)
encoding-alone k RunLength n b z = absurd (omega arith)
encoding-alone k RunLengthNullable n b z = absurd (omega arith)
encoding-alone k Dictionary n b z = refl

dictionary-alone : (c : Option Column) (n : ℕ) (b : List ℕ) → rules_but_15 c n b ≡ 0 → (k : Kind) × (c ≡ Some (column k Dictionary))
unfolding rules_but_15
dictionary-alone None n b z = absurd (omega arith)
dictionary-alone (Some c) n b z = (c.kind, ap (λ (e : Encoding). Some (column c.kind e)) (encoding-alone c.kind c.encoding n b z))

module _ (d : Descriptor) (b : List ℕ) where
  abbrev pair : Option Column
  pair = column_of d.kind d.encoding d.width

  zero_number : described_but_15 d b ≡ 0 → rules_but_15 pair d.rows b ≡ 0
  unfolding described_but_15
  zero_number z = by-column (eqb d.zero 0) (rules_but_15 pair d.rows b) z

  zero-whole : (k : Kind) → pair ≡ Some (column k Dictionary)
      → taken_in zero pair d.rows b ≡ Ok (parts_of k Dictionary d.rows (length b) (head_of Dictionary b))
  unfolding taken_in
  zero-whole k n = rw n

  module _ {s : Result Parts ℕ} (answer : s ≡ taken_of d b) where
    pub taken-whole : {p : Parts} → s ≡ Ok p → Takes d b p
    taken-whole {p} q = go (described_but_15 d b) refl (sym answer ∙ q)
      where
        go : (m : ℕ) → described_but_15 d b ≡ m → taken_in m pair d.rows b ≡ Ok p → Takes d b p
        go (suc m) z h = let o : ◌≡◌ {A = ℕ} 0 1 = unfold taken_in in cc in absurd (omega arith)
        go zero z h =
            let n = dictionary-alone pair d.rows b (zero_number z) in
            record { kind = n.0; named = n.1; number = z; sound = rw n.1 at (zero_number z); parts = cc (zero-whole n.0 n.1) }

    pub taken_refused : {e : ℕ} → s ≡ Err e → (described_but_15 d b ≡ e) × (0 < e)
    taken_refused {e} q = go (described_but_15 d b) refl (sym answer ∙ q)
      where
        go : (m : ℕ) → described_but_15 d b ≡ m → taken_in m pair d.rows b ≡ Err e → (described_but_15 d b ≡ e) × (0 < e)
        go (suc m) z h = let o : suc m ≡ e = unfold taken_in in cc in (z ∙ o, omega (arith, o))
        go zero z h =
            let n = dictionary-alone pair d.rows b (zero_number z) in
            let o : ◌≡◌ {A = ℕ} 0 1 = cc (zero-whole n.0 n.1) in
            absurd (omega arith)
