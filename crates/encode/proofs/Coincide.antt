-- Two results that keep a function's promise are the same, for each by its name and every kind. Assumes nothing.
use Prim.Native.Nat.{ℕ}
use mathlib.Core.Bool.{Bool}
use mathlib.Core.Path.{◌≡◌, sym, ◌∙◌}
use mathlib.Core.List.{List}
use lib.IntN.{ℤ}
use Rattle.encode.specs.declared.Primitive.{Primitive}
use Rattle.encode.specs.declared.Shape.{Shape}
use Rattle.std.specs.Prelude.{Option}
use Rattle.encode.specs.declared.Kind.{Kind}
use Rattle.encode.specs.Promises.{Encodes, Decodes, Takes, Shaped, Wide, Default, Names}

module _ (k : Primitive) where
  pub one-encoded : (v : ℤ) (x y : List ℕ) → Encodes k v x → Encodes k v y → x ≡ y
  one-encoded v x y p q = p ∙ sym q

  pub one-decoded : (item : List ℕ) (x y : ℤ) → Decodes k item x → Decodes k item y → x ≡ y
  one-decoded item x y p q = p ∙ sym q

  pub one-taken : (v : ℤ) (x y : Bool) → Takes k v x → Takes k v y → x ≡ y
  one-taken v x y p q = p ∙ sym q

  pub one-shape : (x y : Shape) → Shaped k x → Shaped k y → x ≡ y
  one-shape x y p q = p ∙ sym q

  pub one_width : (x y : ℕ) → Wide k x → Wide k y → x ≡ y
  one_width x y p q = p ∙ sym q

  pub one-default : (x y : ℤ) → Default k x → Default k y → x ≡ y
  one-default x y p q = p ∙ sym q

pub one-kind : (kind width : ℕ) (x y : Option Kind) → Names kind width x → Names kind width y → x ≡ y
one-kind kind width x y p q = p ∙ sym q
