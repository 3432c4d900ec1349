-- What three numbers name, and the number that a column's rules give, by what the code tested. Assumes nothing.
use Rattle.std.specs.Prelude.{Option, Some, None}
use Prim.Native.Nat.{ℕ, ◌≤◌, ◌<◌}
use mathlib.Core.List.{List}
use mathlib.Core.Path.{◌≡◌, sym, ap, ◌∙◌}
use lib.ListN.{length}
use borrow.Author.Tests.{lt-ltb, le-ltb, eq-eqb, ne_eqb}
use Rattle.limits.specs.Limits.{MOST_BYTES}
use Rattle.limits.specs.Refusals.{COLUMN, LIMIT}
use Rattle.encode.specs.Kinds.{numbered, kind_of}
use Rattle.encode.specs.declared.Kind.{Kind}
use Rattle.plain.specs.Rules.{first_of}
use Rattle.format.specs.declared.Encoding.{Encoding}
use Rattle.format.specs.declared.Column.{Column}
use Rattle.format.specs.Blocks.{column_of, column}
use Rattle.format.specs.Opening.{most_rows, rules_of, column_number, open_number}
use Rattle.format.proofs.Sound.{column-rules}
use Rattle.descriptor.specs.declared.Descriptor.{Descriptor}
use Rattle.descriptor.specs.Descriptor.{described_number}

-- ---- kinds
-- a number that is no kind's, or char's
pub no_number :
    (k : ℕ) (n0 : k ≡ 0 → ⊥) (n1 : k ≡ 1 → ⊥) (n2 : k ≡ 2 → ⊥) (n3 : k ≡ 3 → ⊥) (n4 : k ≡ 4 → ⊥) (n5 : k ≡ 5 → ⊥)
    (n6 : k ≡ 6 → ⊥) (n7 : k ≡ 7 → ⊥) (n9 : k ≡ 9 → ⊥) (n10 : k ≡ 10 → ⊥) (n11 : k ≡ 11 → ⊥) → None ≡ numbered k
unfolding numbered
no_number k n0 n1 n2 n3 n4 n5 n6 n7 n9 n10 n11 =
    simp (
      ne_eqb k 0 n0,
      ne_eqb k 1 n1,
      ne_eqb k 2 n2,
      ne_eqb k 3 n3,
      ne_eqb k 4 n4,
      ne_eqb k 5 n5,
      ne_eqb k 6 n6,
      ne_eqb k 7 n7,
      ne_eqb k 9 n9,
      ne_eqb k 10 n10,
      ne_eqb k 11 n11,
    )

-- no char, and no width
pub by_number : (k w : ℕ) {r : Option Kind} → (k ≡ 8 → ⊥) → w ≡ 0 → r ≡ numbered k → r ≡ kind_of k w
unfolding kind_of
by_number k w other z e = e ∙ simp (ne_eqb k 8 other, eq-eqb w 0 z)

-- ---- the number
-- the rules of the encoding that a match found
pub rules-found : (k : Kind) {e : Encoding} (n : ℕ) (b : List ℕ) (f : Encoding) {r : ℕ} → e ≡ f → r ≡ rules_of k f n b → r ≡ rules_of k e n b
rules-found k n b f q p = p ∙ ap (λ (x : Encoding). rules_of k x n b) (sym q)

module _ {c : Option Column} (n : ℕ) (b : List ℕ) where
  pub unknown : c ≡ None → COLUMN ≡ column_number c n b
  unfolding column_number
  unknown q = ap (λ (x : Option Column). column_number x n b) (sym q)

  module _ {k : Kind} {e : Encoding} (q : c ≡ Some (column k e)) where
    named : column_number (Some (column k e)) n b ≡ column_number c n b
    named = ap (λ (x : Option Column). column_number x n b) (sym q)

    pub too_long : MOST_BYTES < length b → LIMIT ≡ column_number c n b
    unfolding column_number first_of
    too_long h = rw (← named) (simp (lt-ltb MOST_BYTES (length b) h))

    module _ (size : length b ≤ MOST_BYTES) {m : ℕ} (most : m ≡ most_rows e) where
      pub too_many : m < n → LIMIT ≡ column_number c n b
      unfolding column_number first_of
      too_many h = rw (← named, ← most) (simp (le-ltb MOST_BYTES (length b) size, lt-ltb m n h))

      pub then-rules : n ≤ m → {r : ℕ} → r ≡ rules_of k e n b → r ≡ column_number c n b
      then-rules h p = p ∙ sym (column-rules k e n b size (rw most at h)) ∙ named

-- a descriptor: the zero bit, then the column that it names
module _ (d : Descriptor) (b : List ℕ) where
  pub bit-set : (d.zero ≡ 0 → ⊥) → COLUMN ≡ described_number d b
  unfolding described_number
  bit-set h = simp (ne_eqb d.zero 0 h)

  pub by-column :
      d.zero ≡ 0 → {c : Option Column} → c ≡ column_of d.kind d.encoding d.width → {r : ℕ} → r ≡ column_number c d.rows b → r ≡ described_number d b
  unfolding described_number open_number
  by-column h q p = rw (eq-eqb d.zero 0 h) (p ∙ ap (λ (x : Option Column). column_number x d.rows b) q)
