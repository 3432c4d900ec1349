-- A damaged block taken apart: the answer on each way through `take_damaged`. Assumes nothing.
use Prim.Native.Nat.{ℕ, zero, suc, ◌≤◌, ◌<◌}
use native.Mathlib.Omega.{arith}
use mathlib.Core.List.{List, [], ◌∷◌}
use mathlib.Core.Path.{◌≡◌, sym, ap, ◌∙◌}
use lib.ListN.{length}
use borrow.Author.Tests.{eq-eqb, ne_eqb}
use types.Run.{OneOf}
use denote.Enum.Declared.{tag_of}
use Rattle.limits.specs.Limits.{MOST_ROWS, MOST_BYTES}
use Rattle.limits.specs.Refusals.{COLUMN, LIMIT}
use Rattle.encode.specs.declared.Kind.{Kind}
use Rattle.dict.specs.Dictionary.{dictionary_rules}
use Rattle.format.specs.declared.Encoding.{Encoding}
use Rattle.format.specs.declared.Encoding.TheVariants.{Dictionary}
use Rattle.format.specs.declared.Column.{Column}
use Rattle.format.specs.declared.Head.{Head}
use Rattle.format.specs.Blocks.{column, column_of}
use Rattle.format.specs.Opening.{head_of}
use Rattle.format.specs.Found.{found_by}
use Rattle.format.specs.contracts.Encoding.{the_type}
use Rattle.format.proofs.Answers.{found-sound, found-refused}
use Rattle.anatomy.specs.declared.Parts.{Parts}
use Rattle.anatomy.specs.Parts.{parts_of, Right}
use Rattle.descriptor.specs.declared.Descriptor.{Descriptor}
use Rattle.std.specs.Prelude.{Result, Ok, Err, Option, Some, None}
use Rattle.damaged.specs.Damaged.{rules_but_15, described_but_15}
use Rattle.damaged.specs.Taken.{taken_in, taken_of}
use Rattle.damaged.proofs.ButKeys.{other-rules, too_long, too_many, within}
use Rattle.damaged.proofs.HeadNumbers.{numbers-right}

module _ (d : Descriptor) (b : List ℕ) where
  abbrev pair : Option Column
  pair = column_of d.kind d.encoding d.width

  refused-by : (m : ℕ) → described_but_15 d b ≡ m → 0 < m → Err m ≡ taken_of d b
  unfolding taken_in
  refused-by zero q h = absurd (omega arith)
  refused-by (suc m) q h = rw q

  pub bit-set : (d.zero ≡ 0 → ⊥) → Err COLUMN ≡ taken_of d b
  unfolding described_but_15
  bit-set h = refused-by _ (simp (ne_eqb d.zero 0 h)) (omega arith)

  module _ (z : d.zero ≡ 0) where
    by-rules : {c : Option Column} → c ≡ pair → described_but_15 d b ≡ rules_but_15 c d.rows b
    unfolding described_but_15
    by-rules p = rw (eq-eqb d.zero 0 z, p)

    pub unknown : {c : Option Column} → c ≡ pair → c ≡ None → Err COLUMN ≡ taken_of d b
    unfolding rules_but_15
    unknown p q = refused-by _ (by-rules (sym q ∙ p)) (omega arith)

    module _ {c : Option Column} {k : Kind} {e : Encoding} (p : c ≡ pair) (q : c ≡ Some (column k e)) where
      pub other-encoding : OneOf (0 ∷ 1 ∷ 2 ∷ 3 ∷ []) (tag_of the_type e) → Err COLUMN ≡ taken_of d b
      other-encoding o = refused-by _ (by-rules (sym q ∙ p) ∙ other-rules k e d.rows b o) (omega arith)

      module _ (f : e ≡ Dictionary) where
        named : Some (column k Dictionary) ≡ pair
        named = rw f at (sym q ∙ p)

        pub long : MOST_BYTES < length b → Err LIMIT ≡ taken_of d b
        long l = refused-by _ (by-rules named ∙ too_long k d.rows b l) (omega arith)

        module _ (size : length b ≤ MOST_BYTES) where
          pub many : MOST_ROWS < d.rows → Err LIMIT ≡ taken_of d b
          many l = refused-by _ (by-rules named ∙ too_many k d.rows b size l) (omega arith)

          module _ (rows : d.rows ≤ MOST_ROWS) {g : Result Head ℕ} (w : g ≡ found_by (dictionary_rules 0 k d.rows b) (head_of Dictionary b)) where
            number-told : described_but_15 d b ≡ dictionary_rules 0 k d.rows b
            number-told = by-rules named ∙ within k d.rows b size rows

            pub broken : {m : ℕ} → g ≡ Err m → Err m ≡ taken_of d b
            broken h = let t = found-refused _ _ (sym h ∙ w) in refused-by _ (number-told ∙ t.0) t.1

            module _ {h : Head} (s : g ≡ Ok h) where
              told : (dictionary_rules 0 k d.rows b ≡ 0) × (h ≡ head_of Dictionary b)
              told = found-sound _ _ (sym s ∙ w)

              pub right : Right k Dictionary d.rows (length b) h 0
              right = rw told.1 (numbers-right k d.rows b size rows told.0)

              pub whole : {x : Parts} → x ≡ parts_of k Dictionary d.rows (length b) h → Ok x ≡ taken_of d b
              unfolding taken_in
              whole t = rw (number-told ∙ told.0, ← named) (ap Ok (rw told.1 at t))
