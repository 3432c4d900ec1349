-- Two results that keep a function's promise are the same, for each by its name. Assumes nothing.
use Rattle.std.specs.Prelude.{Option}
use Prim.Native.Nat.{ℕ}
use mathlib.Core.Path.{◌≡◌, sym, ◌∙◌}
use mathlib.Core.List.{List}
use Rattle.varint.specs.declared.Count.{Count}
use Rattle.varint.specs.Promises.{Decodes, Encodes, Sizes}

pub one-decoded : (s : List ℕ) (at : ℕ) (x y : Option Count) → Decodes s at x → Decodes s at y → x ≡ y
one-decoded s at x y p q = p ∙ sym q

pub one-encoded : (value : ℕ) (dst : List ℕ) (at : ℕ) (x y : Option ℕ) (a b : List ℕ) → Encodes value dst at x a → Encodes value dst at y b → (x ≡ y) × (a ≡ b)
one-encoded value dst at x y a b p q = (p.0 ∙ sym q.0, p.1 ∙ sym q.1)

pub one_size : (value x y : ℕ) → Sizes value x → Sizes value y → x ≡ y
one_size value x y p q = p ∙ sym q
