-- 01, "Kinds and encodings": the kinds by number; of a fixed kind its width, the order of its bytes, its default, the integers that it takes, an
-- item's bytes and an item's value. Assumes nothing.
use Rattle.std.specs.Prelude.{Bool, true, false, cond, List, ℕ, ◌^◌, ltb, eqb, ℤ, pos, negsuc, Option, Some, None}
use Rattle.std.specs.Int.Signed.{mag}
use Rattle.std.specs.Int.{Width, w8, w16, w32, w64}
use mir.Val.{of_z, to_z, bytes, hbits}
use Rattle.limits.specs.Limits.{MOST_WIDTH}
use Rattle.encode.specs.Bytes.{Order, low_first, high-first, bytes_of, number_of}
use Rattle.encode.specs.declared.Primitive.{Primitive}
use Rattle.encode.specs.declared.Primitive.TheVariants.{Bool as Boolean, I16, I32, I64, Date, Timestamp, TimestampTz, Interval, F64}
use Rattle.encode.specs.declared.Shape.{Shape}
use Rattle.encode.specs.declared.Shape.TheVariants.{Bool as BoolShape, Low2, Low4, Low8, High4, High8}
use Rattle.encode.specs.declared.Kind.{Kind}
use Rattle.encode.specs.declared.Kind.TheVariants.{Fixed, Char, Blob}

-- ---- the fixed kinds: a table of the shapes that items have, and one of the kinds
pub data Reading : Type 0 where
  truth signed : Reading

pub record Layout : Type 0 where
  pub size : Width
  pub order : Order
  pub reading : Reading

abbrev pub lays : Width → Order → Reading → Layout
lays w o r = record { size = w; order = o; reading = r }

abbrev pub laid_as : Shape → Layout
laid_as BoolShape = lays w8 low_first truth
laid_as Low2 = lays w16 low_first signed
laid_as Low4 = lays w32 low_first signed
laid_as Low8 = lays w64 low_first signed
laid_as High4 = lays w32 high-first signed
laid_as High8 = lays w64 high-first signed

-- the bytes of an item of a shape
abbrev pub wide_as : Shape → ℕ
wide_as s = bytes (laid_as s).size

abbrev pub shape_of : Primitive → Shape
shape_of Boolean = BoolShape
shape_of I16 = Low2
shape_of I32 = Low4
shape_of I64 = Low8
shape_of Date = High4
shape_of Timestamp = High8
shape_of TimestampTz = High8
shape_of Interval = High8
shape_of F64 = Low8

abbrev pub layout_of : Primitive → Layout
layout_of p = laid_as (shape_of p)

abbrev pub width_of : Primitive → ℕ
width_of p = bytes (layout_of p).size

-- 0 or false
abbrev pub default_value : ℤ
default_value = pos 0

-- an item's bytes: the lowest of the value's two's complement
abbrev pub bytes_as : Layout → ℤ → List ℕ
bytes_as l v = bytes_of l.order (bytes l.size) (of_z w64 v)

-- an item's value: any nonzero byte reads as true; every other kind is two's complement of its width
abbrev pub true_or_false : Bool → ℤ
true_or_false true = pos 1
true_or_false false = pos 0

abbrev pub number_as : Reading → Width → ℕ → ℤ
number_as truth w n = true_or_false (ltb 0 n)
number_as signed w n = to_z w n

abbrev pub value_as : Layout → List ℕ → ℤ
value_as l bs = number_as l.reading l.size (number_of l.order bs)

-- the integers of the kind: 0 and 1 for a bool, and what the width holds for every other
abbrev pub zero_or_one : ℤ → Bool
zero_or_one (pos n) = ltb n 2
zero_or_one (negsuc n) = false

abbrev pub takes_as : Reading → Width → ℤ → Bool
takes_as truth w v = zero_or_one v
takes_as signed w v = ltb (mag v) (2 ^ hbits w)

abbrev pub encoded : Primitive → ℤ → List ℕ
encoded p v = bytes_as (layout_of p) v

abbrev pub decoded : Primitive → List ℕ → ℤ
decoded p bs = value_as (layout_of p) bs

abbrev pub takes : Primitive → ℤ → Bool
takes p v = takes_as (layout_of p).reading (layout_of p).size v

-- ---- blob, whose items are any bytes, and string, which is laid out alike and whose items are text
abbrev pub blob : Kind
blob = Blob false

abbrev pub string : Kind
string = Blob true

-- the kinds whose items are text
abbrev pub holds_text : Kind → Bool
holds_text (Fixed p) = false
holds_text (Char w) = true
holds_text (Blob text) = text

-- ---- the kinds by number; the width is 0 for every kind but char
unfoldable pub numbered : ℕ → Option Kind
numbered k =
    cond (eqb k 0) (Some (Fixed Boolean))
    (cond (eqb k 1) (Some (Fixed I16))
    (cond (eqb k 2) (Some (Fixed I32))
    (cond (eqb k 3) (Some (Fixed I64))
    (cond (eqb k 4) (Some (Fixed Date))
    (cond (eqb k 5) (Some (Fixed Timestamp))
    (cond (eqb k 6) (Some (Fixed TimestampTz))
    (cond (eqb k 7) (Some (Fixed Interval))
    (cond (eqb k 9) (Some blob)
    (cond (eqb k 10) (Some string)
    (cond (eqb k 11) (Some (Fixed F64)) None))))))))))

unfoldable pub kind_of : ℕ → ℕ → Option Kind
kind_of k w =
    cond (eqb k 8) (cond (eqb w 0) None (cond (ltb MOST_WIDTH w) None (Some (Char w))))
    (cond (eqb w 0) (numbered k) None)
