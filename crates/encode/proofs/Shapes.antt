-- What a fixed kind's width, items and values are by the shape that its items have: one law for every kind of a shape, and the widths of
-- the shapes that an arm of a match names together. Assumes nothing.
use mathlib.Core.List.{List, [], ◌∷◌}
use mathlib.Core.Path.{◌≡◌, refl, ap}
use Prim.Native.Nat.{ℕ}
use denote.Enum.Declared.{tag_of}
use lib.IntN.{ℤ}
use mir.Val.{bytes}
use types.Run.{OneOf, miss}
use Rattle.encode.specs.Kinds.{shape_of, laid_as, width_of, bytes_as, value_as, encoded, decoded}
use Rattle.encode.specs.declared.Primitive.{Primitive}
use Rattle.encode.specs.declared.Shape.{Shape}
use Rattle.encode.specs.declared.Shape.TheVariants.{Bool as BoolShape, Low2, Low4, Low8, High4, High8}
use Rattle.encode.specs.contracts.Shape.{the_type}

-- the bytes of an item of a shape
abbrev pub wide_as : Shape → ℕ
wide_as s = bytes (laid_as s).size

-- a kind of a shape
module _ (p : Primitive) {s : Shape} (e : shape_of p ≡ s) where
  pub width-shaped : width_of p ≡ wide_as s
  width-shaped = ap wide_as e

  pub encoded-shaped : (v : ℤ) → encoded p v ≡ bytes_as (laid_as s) v
  encoded-shaped v = ap (λ (h : Shape). bytes_as (laid_as h) v) e

  pub decoded-shaped : (bs : List ℕ) → decoded p bs ≡ value_as (laid_as s) bs
  decoded-shaped bs = ap (λ (h : Shape). value_as (laid_as h) bs) e

-- Low4 and High4; Low8 and High8
pub four-shaped : (s : Shape) → OneOf (2 ∷ 4 ∷ []) (tag_of the_type s) → wide_as s ≡ 4
four-shaped BoolShape h = absurd (miss (2 ∷ 4 ∷ []) 0 tt h)
four-shaped Low2 h = absurd (miss (2 ∷ 4 ∷ []) 1 tt h)
four-shaped Low4 h = refl
four-shaped Low8 h = absurd (miss (2 ∷ 4 ∷ []) 3 tt h)
four-shaped High4 h = refl
four-shaped High8 h = absurd (miss (2 ∷ 4 ∷ []) 5 tt h)

pub eight-shaped : (s : Shape) → OneOf (3 ∷ 5 ∷ []) (tag_of the_type s) → wide_as s ≡ 8
eight-shaped BoolShape h = absurd (miss (3 ∷ 5 ∷ []) 0 tt h)
eight-shaped Low2 h = absurd (miss (3 ∷ 5 ∷ []) 1 tt h)
eight-shaped Low4 h = absurd (miss (3 ∷ 5 ∷ []) 2 tt h)
eight-shaped Low8 h = refl
eight-shaped High4 h = absurd (miss (3 ∷ 5 ∷ []) 4 tt h)
eight-shaped High8 h = refl
