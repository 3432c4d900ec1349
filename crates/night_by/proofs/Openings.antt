-- What opening tells beside a number: of a block by its descriptor, and of a column of a sheet file. Assumes nothing.
use Prim.Native.Nat.{ℕ, zero, suc}
use native.Mathlib.Omega.{arith}
use mathlib.Core.List.{List}
use mathlib.Core.Path.{◌≡◌, refl, sym, ap, ◌∙◌}
use Rattle.block.specs.declared.Opening.{Opening}
use Rattle.block.specs.Reading.{opening_of}
use Rattle.descriptor.specs.declared.Descriptor.{Descriptor}
use Rattle.descriptor.specs.Descriptor.{described_number, described_opened}
use Rattle.sheet.specs.declared.Found.{Found}
use Rattle.sheet.specs.Sheet.{found_by}
use Rattle.slow_laws.specs.Agreeing.{fresh}
use Rattle.slow_laws.proofs.Openings.{number-refuses, fresh-opened}

module _ (d : Descriptor) (b : List ℕ) where
  -- ---- a block
  opening-by : (m : ℕ) → described_number d b ≡ m → (opening_of (described_opened d b)).number ≡ m
  unfolding opening_of
  opening-by zero q = rw (fresh-opened d b q)
  opening-by (suc m) q = rw (number-refuses d b (λ z. omega (arith, q, z))) q

  module _ {o : Opening} (told : o ≡ opening_of (described_opened d b)) where
    pub opening-number : o.number ≡ described_number d b
    opening-number = ap (λ (x : Opening). x.number) told ∙ opening-by (described_number d b) refl

    pub opening-reader : o.number ≡ 0 → o.reader ≡ fresh d b
    unfolding opening_of
    opening-reader z = ap (λ (x : Opening). x.reader) told ∙ rw (fresh-opened d b (sym opening-number ∙ z))

  -- ---- a column
  module _ (from len : ℕ) where
    found-by : (m : ℕ) → described_number d b ≡ m → (found_by (described_opened d b) from len).number ≡ m
    unfolding found_by
    found-by zero q = rw (fresh-opened d b q)
    found-by (suc m) q = rw (number-refuses d b (λ z. omega (arith, q, z))) q

    module _ {x : Found} (told : x ≡ found_by (described_opened d b) from len) where
      pub found_number : x.number ≡ described_number d b
      found_number = ap (λ (y : Found). y.number) told ∙ found-by (described_number d b) refl

      pub found-reader : x.number ≡ 0 → x.reader ≡ fresh d b
      unfolding found_by
      found-reader z = ap (λ (y : Found). y.reader) told ∙ rw (fresh-opened d b (sym found_number ∙ z))
