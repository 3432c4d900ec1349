-- What each function of a kind promises, and what finding a kind does, as one relation of what it is given and what comes of it. Assumes nothing.
use Rattle.std.specs.Prelude.{ℕ, Bool, ◌≡◌, List, ℤ, take, Option}
use Rattle.encode.specs.Bytes.{in_eight}
use Rattle.encode.specs.declared.Primitive.{Primitive}
use Rattle.encode.specs.declared.Shape.{Shape}
use Rattle.encode.specs.declared.Kind.{Kind}
use Rattle.encode.specs.Kinds.{shape_of, laid_as, wide_as, bytes_as, value_as, takes_as, width_of, default_value, encoded, decoded, takes, kind_of}

-- of the kinds of a shape
abbrev pub EncodesAs : Shape → (v : ℤ) → List ℕ → Type 0
EncodesAs s v answer = answer ≡ in_eight (bytes_as (laid_as s) v)

abbrev pub DecodesAs : Shape → (item : List ℕ) → ℤ → Type 0
DecodesAs s item answer = answer ≡ value_as (laid_as s) (take (wide_as s) item)

abbrev pub TakesAs : Shape → (v : ℤ) → Bool → Type 0
TakesAs s v answer = answer ≡ takes_as (laid_as s).reading (laid_as s).size v

-- of a kind
abbrev pub Encodes : Primitive → (v : ℤ) → List ℕ → Type 0
Encodes p v answer = answer ≡ in_eight (encoded p v)

abbrev pub Decodes : Primitive → (item : List ℕ) → ℤ → Type 0
Decodes p item answer = answer ≡ decoded p (take (width_of p) item)

abbrev pub Takes : Primitive → (v : ℤ) → Bool → Type 0
Takes p v answer = answer ≡ takes p v

abbrev pub Shaped : Primitive → Shape → Type 0
Shaped p answer = answer ≡ shape_of p

abbrev pub Wide : Primitive → ℕ → Type 0
Wide p answer = answer ≡ width_of p

abbrev pub Default : Primitive → ℤ → Type 0
Default p answer = answer ≡ default_value

abbrev pub Names : (kind width : ℕ) → Option Kind → Type 0
Names kind width answer = answer ≡ kind_of kind width
