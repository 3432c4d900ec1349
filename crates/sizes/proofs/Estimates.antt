-- The estimated size and should_finish on each way through the code. Assumes nothing.
use Prim.Native.Nat.{ℕ, ◌+◌, ◌*◌, ◌≤◌, ◌<◌}
use native.Mathlib.Omega.{arith}
use mathlib.Core.Path.{◌≡◌, refl, sym, ap, subst, ◌∙◌}
use mathlib.Core.Bool.{Bool, true, false, cond, not}
use mathlib.Core.List.{[], ◌∷◌}
use lib.Dec.{ltb}
use borrow.Author.Tests.{lt-ltb, le-ltb, ltb-true, ltb-false, eq-eqb, ne_eqb}
use types.Run.{OneOf, miss}
use denote.Enum.Declared.{tag_of}
use Rattle.encode.specs.declared.Kind.{Kind}
use Rattle.encode.specs.declared.Kind.TheVariants.{Fixed, Char, Blob}
use Rattle.encode.specs.declared.Primitive.{Primitive}
use Rattle.encode.specs.Kinds.{width_of}
use Rattle.encode.specs.contracts.Kind.{the_type as kind-type}
use Rattle.nullable.specs.Nullable.{bitmap_length}
use Rattle.format.specs.declared.Encoding.{Encoding}
use Rattle.format.specs.declared.Encoding.TheVariants.{Plain, Nullable, RunLength, RunLengthNullable, Dictionary}
use Rattle.format.specs.contracts.Encoding.{the_type}
use Rattle.needs.specs.declared.Counted.{Counted}
use Rattle.needs.specs.Needs.{flagged, keyed, stored_by, plain_bytes}
use Rattle.sizes.specs.Sizes.{inner_size, run_size, size_by, next_bytes, exceeds, items_full, keys_full, full_by}
use Rattle.encode.proofs.Bools.{clash as apart, or-first, or-then, and_then, and-not}
use Rattle.plain.proofs.Numbers.{width_few}
use Rattle.needs.proofs.Encodings.{cond-then, cond-else}
use Rattle.limits.specs.Limits.{MOST_WIDTH}

-- ---- the estimated size
module _ (e : Encoding) {x : Bool} (q : x ≡ flagged e) where
  pub flag-some : x ≡ true → (n : ℕ) {m : ℕ} → m ≡ bitmap_length n → m ≡ cond (flagged e) (bitmap_length n) 0
  flag-some t n h = h ∙ cond-then (bitmap_length n) 0 q t

  pub flag-none : x ≡ false → (n : ℕ) → 0 ≡ cond (flagged e) (bitmap_length n) 0
  flag-none t n = cond-else (bitmap_length n) 0 q t

pub inner-sum :
    (k : Kind) (e : Encoding) (r : Counted) {n p f : ℕ} → n ≡ stored_by e r → p ≡ plain_bytes k n r.bytes → f ≡ cond (flagged e) (bitmap_length n) 0
    → p + f ≡ inner_size k e r
unfolding inner_size
inner-sum k e r {n} {p} {f} q h g =
    subst (λ (m : ℕ). p + f ≡ plain_bytes k m r.bytes + cond (flagged e) (bitmap_length m) 0) q cc

pub run-sum : (r : Counted) (inner : ℕ) → inner + 4 + 2 * r.runs ≡ run_size r inner
unfolding run_size
run-sum r inner = refl

module _ (k : Kind) (e : Encoding) (r : Counted) {i : ℕ} (h : i ≡ inner_size k e r) where
  pub size-inner : OneOf (0 ∷ 1 ∷ []) (tag_of the_type e) → i ≡ size_by k e r
  unfolding size_by
  size-inner q = h ∙ go e q
    where
      go : (e : Encoding) → OneOf (0 ∷ 1 ∷ []) (tag_of the_type e) → inner_size k e r ≡ size_by k e r
      go Plain h = refl
      go Nullable h = refl
      go RunLength h = absurd (miss (0 ∷ 1 ∷ []) 2 tt h)
      go RunLengthNullable h = absurd (miss (0 ∷ 1 ∷ []) 3 tt h)
      go Dictionary h = absurd (miss (0 ∷ 1 ∷ []) 4 tt h)

  pub size_runs : OneOf (2 ∷ 3 ∷ []) (tag_of the_type e) → {x : ℕ} → x ≡ run_size r i → x ≡ size_by k e r
  unfolding size_by
  size_runs q p = p ∙ ap (run_size r) h ∙ go e q
    where
      go : (e : Encoding) → OneOf (2 ∷ 3 ∷ []) (tag_of the_type e) → run_size r (inner_size k e r) ≡ size_by k e r
      go Plain h = absurd (miss (2 ∷ 3 ∷ []) 0 tt h)
      go Nullable h = absurd (miss (2 ∷ 3 ∷ []) 1 tt h)
      go RunLength h = refl
      go RunLengthNullable h = refl
      go Dictionary h = absurd (miss (2 ∷ 3 ∷ []) 4 tt h)

  pub size-keys : e ≡ Dictionary → {x : ℕ} → x ≡ run_size r (4 * r.runs) → 8 + x + i ≡ size_by k e r
  unfolding size_by
  size-keys q {x} p =
      let z : 8 + x + i ≡ 8 + run_size r (4 * r.runs) + inner_size k e r = cc in
      z ∙ subst (λ (f : Encoding). 8 + run_size r (4 * r.runs) + inner_size k f r ≡ size_by k f r) (sym q) refl

-- ---- should_finish
pub exceeds-far : (target have more len : ℕ) → target < len → true ≡ ltb target (have + more + len)
exceeds-far target have more len h = sym (lt-ltb target (have + more + len) (omega arith))

pub exceeds-by : (target have more len : ℕ) → len ≤ target → (d : ℕ) → d + len ≡ target → ltb d (have + more) ≡ ltb target (have + more + len)
exceeds-by target have more len h d q = go (ltb d (have + more)) refl
  where
    go : (t : Bool) → t ≡ ltb d (have + more) → ltb d (have + more) ≡ ltb target (have + more + len)
    go true p = let l = ltb-true d (have + more) (sym p) in sym p ∙ sym (lt-ltb target (have + more + len) (omega arith))
    go false p = let l = ltb-false d (have + more) (sym p) in sym p ∙ sym (le-ltb target (have + more + len) (omega arith))

module _ (k : Kind) where
  pub next-width : (p : Primitive) → k ≡ Fixed p → {w : ℕ} → w ≡ width_of p → (w ≡ next_bytes k false 0) × (w ≤ MOST_WIDTH)
  unfolding next_bytes
  next-width p q h = (h ∙ ap (λ (j : Kind). next_bytes j false 0) (sym q), width_few p h)

  pub next-char : (w : ℕ) → k ≡ Char w → w ≡ next_bytes k false 0
  unfolding next_bytes
  next-char w q = ap (λ (j : Kind). next_bytes j false 0) (sym q)

  pub next-blob : {text : Bool} → k ≡ Blob text → 4 ≡ next_bytes k false 0
  unfolding next_bytes
  next-blob q = ap (λ (j : Kind). next_bytes j false 0) (sym q)

  pub no-len : OneOf (0 ∷ 1 ∷ []) (tag_of kind-type k) → (present : Bool) (len : ℕ) → next_bytes k false 0 + 0 ≡ next_bytes k present len
  unfolding next_bytes
  no-len h present len = go k h
    where
      go : (k : Kind) → OneOf (0 ∷ 1 ∷ []) (tag_of kind-type k) → next_bytes k false 0 + 0 ≡ next_bytes k present len
      go (Fixed p) h = omega arith
      go (Char w) h = omega arith
      go (Blob text) h = absurd (miss (0 ∷ 1 ∷ []) 2 tt h)

  pub blob-len : {text : Bool} → k ≡ Blob text → (present : Bool) → present ≡ true → (len : ℕ) → next_bytes k false 0 + len ≡ next_bytes k present len
  unfolding next_bytes
  blob-len q present t len =
      let z : 4 + len ≡ len + 4 = omega arith in
      subst (λ (j : Kind). next_bytes j false 0 + len ≡ next_bytes j present len) (sym q)
      (subst (λ (y : Bool). 4 + len ≡ cond y (len + 4) 4) (sym t) z)

  pub blob-null : {text : Bool} → k ≡ Blob text → (present : Bool) → present ≡ false → (len : ℕ) → next_bytes k false 0 + 0 ≡ next_bytes k present len
  unfolding next_bytes
  blob-null q present t len =
      subst (λ (j : Kind). next_bytes j false 0 + 0 ≡ next_bytes j present len) (sym q)
      (subst (λ (y : Bool). 4 + 0 ≡ cond y (len + 4) 4) (sym t) refl)

module _ (k : Kind) (e : Encoding) (r : Counted) (target : ℕ) (present : Bool) (len : ℕ) where
  pub items-empty : r.bytes ≡ 0 → false ≡ items_full k e r target present len
  unfolding items_full exceeds
  items-empty h = simp (eq-eqb r.bytes 0 h)

  pub items-test :
      (r.bytes ≡ 0 → ⊥) → {n : ℕ} → n ≡ stored_by e r → {p : ℕ} → p ≡ plain_bytes k n r.bytes → (l : ℕ) {x f : ℕ} → x ≡ next_bytes k false 0
      → f ≡ cond (flagged e) 1 0 → next_bytes k false 0 + l ≡ next_bytes k present len
      → {t : Bool} → t ≡ ltb target (p + (x + f) + l) → t ≡ items_full k e r target present len
  unfolding items_full exceeds
  items-test h {n} q {p} g l {x} {f} a b c {t} d =
      let s : p ≡ plain_bytes k (stored_by e r) r.bytes = g ∙ ap (λ (i : ℕ). plain_bytes k i r.bytes) q in
      let z : p + (x + f) + l ≡ plain_bytes k (stored_by e r) r.bytes + (next_bytes k present len + cond (flagged e) 1 0) = omega (arith, a, b, c, s) in
      d ∙ ap (ltb target) z ∙ and_then {x = true} _ (sym (ap not (ne_eqb r.bytes 0 h))) refl

module _ (r : Counted) (key : ℕ) where
  pub no_keys : r.runs ≡ 0 → false ≡ keys_full r key
  unfolding keys_full exceeds
  no_keys h = and-not {x = false} _ (sym (ap not (eq-eqb (4 * r.runs) 0 (omega arith)))) refl

  pub some-keys : (r.runs ≡ 0 → ⊥) → ltb key (4 * r.runs + 4) ≡ keys_full r key
  unfolding keys_full exceeds plain_bytes
  some-keys h = and_then {x = true} _ (sym (ap not (ne_eqb (4 * r.runs) 0 (λ z. h (omega (arith, z)))))) refl

module _ (k : Kind) (e : Encoding) (r : Counted) (target key : ℕ) (present : Bool) (len : ℕ) {x : Bool} (q : x ≡ items_full k e r target present len) where
  pub full-items : x ≡ true → true ≡ full_by k e r target key present len
  unfolding full_by
  full-items t = go e (sym q ∙ t)
    where
      go : (e : Encoding) → items_full k e r target present len ≡ true → true ≡ full_by k e r target key present len
      go Plain h = sym h
      go Nullable h = sym h
      go RunLength h = sym h
      go RunLengthNullable h = sym h
      go Dictionary h = or-first _ h

  pub full-keys : x ≡ false → {y : Bool} → y ≡ keyed e → y ≡ true → {t : Bool} → t ≡ keys_full r key → t ≡ full_by k e r target key present len
  unfolding full_by keyed
  full-keys u p v {t} g = go e (sym q ∙ u) (sym p ∙ v)
    where
      go : (e : Encoding) → items_full k e r target present len ≡ false → keyed e ≡ true → t ≡ full_by k e r target key present len
      go Plain h s = apart (sym s)
      go Nullable h s = apart (sym s)
      go RunLength h s = apart (sym s)
      go RunLengthNullable h s = apart (sym s)
      go Dictionary h s = or-then h g

  pub full-none : x ≡ false → {y : Bool} → y ≡ keyed e → y ≡ false → false ≡ full_by k e r target key present len
  unfolding full_by keyed
  full-none u p v = go e (sym q ∙ u) (sym p ∙ v)
    where
      go : (e : Encoding) → items_full k e r target present len ≡ false → keyed e ≡ false → false ≡ full_by k e r target key present len
      go Plain h s = sym h
      go Nullable h s = sym h
      go RunLength h s = sym h
      go RunLengthNullable h s = sym h
      go Dictionary h s = apart s
