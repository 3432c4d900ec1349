-- The stage that follows, on each way through the code: plain rules, nullable blocks, ends, chars and keys. Assumes nothing.
use Prim.Native.Nat.{ℕ, zero, suc, ◌+◌, ◌-◌, ◌*◌, ◌≤◌, ◌<◌}
use native.Mathlib.Omega.{arith}
use mathlib.Core.Bool.{Bool, true, false, cond, not}
use mathlib.Core.List.{[], ◌∷◌}
use mathlib.Core.Path.{◌≡◌, refl, sym, ap, ◌∙◌}
use lib.Dec.{eqb}
use borrow.Author.Tests.{lt-ltb, le-ltb, eq-eqb, ne_eqb}
use types.Run.{OneOf, miss}
use denote.Enum.Declared.{tag_of}
use Rattle.limits.specs.Refusals.{CUT, LENGTH}
use Rattle.encode.specs.Kinds.{width_of}
use Rattle.encode.specs.declared.Primitive.{Primitive}
use Rattle.encode.specs.declared.Kind.{Kind}
use Rattle.encode.specs.declared.Kind.TheVariants.{Fixed, Char, Blob}
use Rattle.plain.specs.Rules.{◌if◌}
use Rattle.nullable.specs.Nullable.{bitmap_length}
use Rattle.format.specs.declared.Encoding.{Encoding}
use Rattle.format.specs.declared.Encoding.TheVariants.{Plain, Nullable, RunLength, RunLengthNullable, Dictionary}
use Rattle.format.specs.contracts.Encoding.{the_type}
use Rattle.arriving.specs.Stages.{Stage, Done, Keys, Ends, Chars, Trailer}
use Rattle.arriving.specs.Arriving.{trailed, settled, ends_from, chars_from, plain_from, nullable_from, keys_from}

-- ---- the trailer: the encodings that each arm names
pub with-trailer : (e : Encoding) → OneOf (1 ∷ 3 ∷ []) (tag_of the_type e) → true ≡ trailed e
unfolding trailed
with-trailer Plain h = absurd (miss (1 ∷ 3 ∷ []) 0 tt h)
with-trailer Nullable h = refl
with-trailer RunLength h = absurd (miss (1 ∷ 3 ∷ []) 2 tt h)
with-trailer RunLengthNullable h = refl
with-trailer Dictionary h = absurd (miss (1 ∷ 3 ∷ []) 4 tt h)

pub no-trailer : (e : Encoding) → OneOf (0 ∷ 2 ∷ 4 ∷ []) (tag_of the_type e) → false ≡ trailed e
unfolding trailed
no-trailer Plain h = refl
no-trailer Nullable h = absurd (miss (0 ∷ 2 ∷ 4 ∷ []) 1 tt h)
no-trailer RunLength h = refl
no-trailer RunLengthNullable h = absurd (miss (0 ∷ 2 ∷ 4 ∷ []) 3 tt h)
no-trailer Dictionary h = refl

-- the plain rules' number waits for the trailer, or is the verdict
module _ (e : Encoding) (bits v : ℕ) {t : Bool} (p : t ≡ trailed e) where
  pub waits : t ≡ true → Trailer bits v ≡ settled e bits v
  unfolding settled
  waits q = ap (λ (x : Bool). cond x (Trailer bits v) (Done v)) (sym q ∙ p)

  pub decided : t ≡ false → Done v ≡ settled e bits v
  unfolding settled
  decided q = ap (λ (x : Bool). cond x (Trailer bits v) (Done v)) (sym q ∙ p)

-- ---- ends: the last one is the data's length, or isn't
module _ (e : Encoding) (bits last long : ℕ) where
  behind : (t : Bool) {n : ℕ} {r : Stage} → eqb last long ≡ t → n ≡ 0 → r ≡ settled e bits (LENGTH if not t) → r ≡ ends_from e bits n last long
  unfolding ends_from
  behind t q z h = h ∙ ap (λ (x : Bool). settled e bits (LENGTH if not x)) (sym q) ∙ ap (λ (m : ℕ). ends_from e bits m last long) (sym z)

  pub ends-right : {n : ℕ} {r : Stage} → n ≡ 0 → last ≡ long → r ≡ settled e bits 0 → r ≡ ends_from e bits n last long
  ends-right z q = behind true (eq-eqb last long q) z

  pub ends-wrong : {n : ℕ} {r : Stage} → n ≡ 0 → (last ≡ long → ⊥) → r ≡ settled e bits LENGTH → r ≡ ends_from e bits n last long
  ends-wrong z q = behind false (ne_eqb last long q) z

  pub more-ends : (n : ℕ) → (n ≡ 0 → ⊥) → Ends n last long bits ≡ ends_from e bits n last long
  unfolding ends_from
  more-ends zero h = absurd (h refl)
  more-ends (suc n) h = refl

-- ---- chars
module _ (e : Encoding) (bits at : ℕ) (ended : Bool) where
  pub no-chars : {n : ℕ} {r : Stage} → n ≡ 0 → r ≡ settled e bits 0 → r ≡ chars_from e bits n at ended
  unfolding chars_from
  no-chars z h = h ∙ ap (λ (m : ℕ). chars_from e bits m at ended) (sym z)

  pub more-chars : (n : ℕ) → (n ≡ 0 → ⊥) → Chars n at ended bits ≡ chars_from e bits n at ended
  unfolding chars_from
  more-chars zero h = absurd (h refl)
  more-chars (suc n) h = refl

-- ---- keys
module _ (k : Kind) (entries rest : ℕ) where
  pub no_keys : {n : ℕ} {r : Stage} → n ≡ 0 → r ≡ plain_from k Dictionary 0 entries rest → r ≡ keys_from k n entries rest
  unfolding keys_from
  no_keys z h = h ∙ ap (λ (m : ℕ). keys_from k m entries rest) (sym z)

  pub more-keys : (n : ℕ) → (n ≡ 0 → ⊥) → Keys n entries ≡ keys_from k n entries rest
  unfolding keys_from
  more-keys zero h = absurd (h refl)
  more-keys (suc n) h = refl

-- ---- a length that is the right one, or another
module _ (len due : ℕ) where
  pub length-kept : len ≡ due → 0 ≡ LENGTH if not (eqb len due)
  length-kept e = ap (λ (t : Bool). LENGTH if not t) (sym (eq-eqb len due e))

  pub length-broken : (len ≡ due → ⊥) → LENGTH ≡ LENGTH if not (eqb len due)
  length-broken e = ap (λ (t : Bool). LENGTH if not t) (sym (ne_eqb len due e))

-- ---- a plain block
-- chars: v is the number of their length's rule
module _ (e : Encoding) (bits len : ℕ) {v : ℕ} {r : Stage} where
  chars-refused :
      (t : Bool) → v ≡ LENGTH if not t → (v ≡ 0 → ⊥) → r ≡ settled e bits v → r ≡ cond t (chars_from e bits len 0 false) (settled e bits LENGTH)
  chars-refused true g z h = absurd (z g)
  chars-refused false g z h = h ∙ ap (settled e bits) g

  chars-go-on :
      (t : Bool) → v ≡ LENGTH if not t → v ≡ 0 → r ≡ chars_from e bits len 0 false → r ≡ cond t (chars_from e bits len 0 false) (settled e bits LENGTH)
  chars-go-on true g z h = h
  chars-go-on false g z h = let i : v ≡ 11 = g in absurd (omega arith)

-- blobs: whether the ends fit
abbrev by-room : Encoding → (bits n len : ℕ) → Bool → Stage
by-room e bits n len t = cond t (settled e bits CUT) (ends_from e bits n 0 (len - 4 * n))

-- by the kind that a match found
module _ {k : Kind} (e : Encoding) (bits n len : ℕ) {r : Stage} where
  found : (j : Kind) → k ≡ j → r ≡ plain_from j e bits n len → r ≡ plain_from k e bits n len
  found j q h = h ∙ ap (λ (x : Kind). plain_from x e bits n len) (sym q)

  pub fixed-items :
      (p : Primitive) {w v : ℕ} → k ≡ Fixed p → w ≡ width_of p → v ≡ LENGTH if not (eqb len (n * w)) → r ≡ settled e bits v → r ≡ plain_from k e bits n len
  unfolding plain_from
  fixed-items p q f g h = found (Fixed p) q (h ∙ ap (settled e bits) (g ∙ ap (λ (x : ℕ). LENGTH if not (eqb len (n * x))) f))

  module _ {w v : ℕ} (q : k ≡ Char w) (g : v ≡ LENGTH if not (eqb len (n * w))) where
    pub chars-wrong : (v ≡ 0 → ⊥) → r ≡ settled e bits v → r ≡ plain_from k e bits n len
    unfolding plain_from
    chars-wrong z h = found (Char w) q (chars-refused e bits len (eqb len (n * w)) g z h)

    pub chars-right : v ≡ 0 → r ≡ chars_from e bits len 0 false → r ≡ plain_from k e bits n len
    unfolding plain_from
    chars-right z h = found (Char w) q (chars-go-on e bits len (eqb len (n * w)) g z h)

  module _ {t : Bool} (q : k ≡ Blob t) where
    pub blobs-cut : len < 4 * n → r ≡ settled e bits CUT → r ≡ plain_from k e bits n len
    unfolding plain_from
    blobs-cut l h = found (Blob t) q (h ∙ ap (by-room e bits n len) (sym (lt-ltb len (4 * n) l)))

    pub blobs-fit : 4 * n ≤ len → r ≡ ends_from e bits n 0 (len - 4 * n) → r ≡ plain_from k e bits n len
    unfolding plain_from
    blobs-fit l h = found (Blob t) q (h ∙ ap (by-room e bits n len) (sym (le-ltb len (4 * n) l)))

-- ---- a nullable block: w is the length of its bitmap
module _ (k : Kind) (e : Encoding) (n len : ℕ) where
  pub under-four : len < 4 → Done CUT ≡ nullable_from k e n len
  unfolding nullable_from
  under-four h = simp (lt-ltb len 4 h)

  module _ (h : 4 ≤ len) {w : ℕ} (q : w ≡ bitmap_length n) where
    pub no-bitmap : len < w + 4 → Trailer w CUT ≡ nullable_from k e n len
    unfolding nullable_from
    no-bitmap l = rw (← q) (simp (le-ltb len 4 h, lt-ltb len (w + 4) l))

    pub then-plain : w + 4 ≤ len → {r : Stage} → r ≡ plain_from k e w n (len - (w + 4)) → r ≡ nullable_from k e n len
    unfolding nullable_from
    then-plain l p = p ∙ rw (← q) (simp (le-ltb len 4 h, le-ltb len (w + 4) l))
