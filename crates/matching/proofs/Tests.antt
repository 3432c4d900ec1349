-- From the test that the code makes of a place to the values of the kind, whose shape a match found. Assumes nothing.
use Prim.Native.Nat.{ℕ, ◌*◌, ◌≤◌, ◌<◌}
use mathlib.Core.Path.{◌≡◌, refl, sym, ap, subst, ◌∙◌}
use mathlib.Core.List.{List}
use lib.ListN.{length, take, drop, get_or}
use Rattle.encode.specs.Kinds.{shape_of, laid_as, width_of, value_as}
use Rattle.encode.specs.declared.Primitive.{Primitive}
use Rattle.encode.specs.declared.Primitive.TheVariants.{Bool as Boolean}
use Rattle.encode.specs.declared.Shape.{Shape}
use Rattle.encode.specs.declared.Kind.TheVariants.{Fixed}
use Rattle.encode.proofs.Shapes.{wide_as}
use Rattle.plain.specs.Rows.{Row, int, same}
use Rattle.plain.specs.Plain.{fixed_at, least_bytes}
use Rattle.matching.specs.Matching.{equal_at, word_at}
use Rattle.matching.proofs.Words.{word_same}

module _ (p : Primitive) where
  pub room-found : (n m w : ℕ) → width_of p ≡ w → least_bytes (Fixed p) n ≤ m → n * w ≤ m
  unfolding least_bytes
  room-found n m w e h = subst (λ (v : ℕ). n * v ≤ m) e h

  module _ (a b : List ℕ) where
    -- a bool's
    pub by-truth : shape_of p ≡ shape_of Boolean → (k : ℕ) → equal_at Boolean a b k ≡ equal_at p a b k
    unfolding equal_at fixed_at
    by-truth e k =
        let value : Shape → List ℕ → Row = λ (s : Shape) (l : List ℕ). int (value_as (laid_as s) (take (wide_as s) (drop (k * wide_as s) l))) in
        ap (λ (s : Shape). same (value s a) (value s b)) (sym e)

    -- that of w bytes
    module _ (fa : (j : ℕ) → get_or a j 0 < 256) (fb : (j : ℕ) → get_or b j 0 < 256) {n : ℕ} (ra : least_bytes (Fixed p) n ≤ length a) (rb : least_bytes (Fixed p) n ≤ length b) where
      pub by_word : (w : ℕ) → width_of p ≡ w → 1 < w → (k : ℕ) → k < n → word_at w a b k ≡ equal_at p a b k
      by_word w e wide k h =
          let x = room-found n (length a) (width_of p) refl ra in
          let y = room-found n (length b) (width_of p) refl rb in
          let l : 1 < width_of p = subst (λ (v : ℕ). 1 < v) (sym e) wide in
          ap (λ (v : ℕ). word_at v a b k) (sym e) ∙ word_same p n a b fa fb x y l k h
