-- The pair that three numbers name, and the rows that an encoding holds, on each way through the code. Assumes nothing.
use Prim.Native.Nat.{ℕ}
use mathlib.Core.List.{[], ◌∷◌}
use mathlib.Core.Bool.{Bool, true, false, cond}
use mathlib.Core.Path.{◌≡◌, refl, ap, ◌∙◌}
use lib.Dec.{eqb}
use borrow.Author.Tests.{ne_eqb}
use types.Run.{OneOf, miss}
use denote.Enum.Declared.{tag_of}
use Rattle.limits.specs.Limits.{MOST_ROWS, MOST_ITEMS}
use Rattle.encode.specs.declared.Kind.{Kind}
use Rattle.std.specs.Prelude.{Option, Some, None}
use Rattle.encode.specs.Kinds.{kind_of}
use Rattle.format.specs.declared.Encoding.{Encoding}
use Rattle.format.specs.declared.Encoding.TheVariants.{Plain, Nullable, RunLength, RunLengthNullable, Dictionary}
use Rattle.format.specs.contracts.Encoding.{the_type}
use Rattle.format.specs.declared.Column.{Column}
use Rattle.format.specs.Blocks.{column, with_encoding, encoding_of, column_of}
use Rattle.format.specs.Opening.{most_rows}

-- the encoding's number is known: then `encoding_of` computes
pub no-encoding :
    (e : ℕ) → (n0 : e ≡ 0 → ⊥) (n1 : e ≡ 1 → ⊥) (n2 : e ≡ 2 → ⊥) (n3 : e ≡ 3 → ⊥) (n4 : e ≡ 4 → ⊥) → None ≡ encoding_of e
unfolding encoding_of
no-encoding e n0 n1 n2 n3 n4 = simp (ne_eqb e 0 n0, ne_eqb e 1 n1, ne_eqb e 2 n2, ne_eqb e 3 n3, ne_eqb e 4 n4)

-- a kind and an encoding, which may be missing
abbrev paired : Kind → Option Encoding → Option Column
paired k None = None
paired k (Some e) = Some (column k e)

with_kind : (k : Kind) (e : ℕ) → paired k (encoding_of e) ≡ with_encoding (Some k) e
unfolding with_encoding encoding_of
with_kind k e = go (eqb e 0) (eqb e 1) (eqb e 2) (eqb e 3) (eqb e 4)
  where
    go : (t0 t1 t2 t3 t4 : Bool)
        → paired k (cond t0 (Some Plain) (cond t1 (Some Nullable) (cond t2 (Some RunLength) (cond t3 (Some RunLengthNullable) (cond t4 (Some Dictionary) None)))))
        ≡ cond t0 (Some (column k Plain)) (cond t1 (Some (column k Nullable)) (cond t2 (Some (column k RunLength))
        (cond t3 (Some (column k RunLengthNullable)) (cond t4 (Some (column k Dictionary)) None))))
    go true t1 t2 t3 t4 = refl
    go false true t2 t3 t4 = refl
    go false false true t3 t4 = refl
    go false false false true t4 = refl
    go false false false false true = refl
    go false false false false false = refl

module _ (kind width e : ℕ) where
  pub no_kind : None ≡ kind_of kind width → None ≡ column_of kind e width
  unfolding column_of with_encoding
  no_kind p = ap (λ (f : Option Kind). with_encoding f e) p

  module _ {k : Kind} (p : Some k ≡ kind_of kind width) where
    found : paired k (encoding_of e) ≡ column_of kind e width
    unfolding column_of
    found = with_kind k e ∙ ap (λ (f : Option Kind). with_encoding f e) p

    pub none-with : None ≡ encoding_of e → None ≡ column_of kind e width
    none-with q = ap (paired k) q ∙ found

    pub some-with : {x : Encoding} → Some x ≡ encoding_of e → Some (column k x) ≡ column_of kind e width
    some-with q = ap (paired k) q ∙ found

-- ---- the rows: the encodings that each arm names
pub few-rows : (e : Encoding) → OneOf (0 ∷ 1 ∷ []) (tag_of the_type e) → MOST_ITEMS ≡ most_rows e
unfolding most_rows
few-rows Plain h = refl
few-rows Nullable h = refl
few-rows RunLength h = absurd (miss (0 ∷ 1 ∷ []) 2 tt h)
few-rows RunLengthNullable h = absurd (miss (0 ∷ 1 ∷ []) 3 tt h)
few-rows Dictionary h = absurd (miss (0 ∷ 1 ∷ []) 4 tt h)

pub many-rows : (e : Encoding) → OneOf (2 ∷ 3 ∷ 4 ∷ []) (tag_of the_type e) → MOST_ROWS ≡ most_rows e
unfolding most_rows
many-rows Plain h = absurd (miss (2 ∷ 3 ∷ 4 ∷ []) 0 tt h)
many-rows Nullable h = absurd (miss (2 ∷ 3 ∷ 4 ∷ []) 1 tt h)
many-rows RunLength h = refl
many-rows RunLengthNullable h = refl
many-rows Dictionary h = refl
