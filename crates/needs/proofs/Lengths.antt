-- How long a block is by what is counted: plain, inner, of runs, finished. Assumes nothing.
use Prim.Native.Nat.{ℕ, ◌+◌, ◌*◌, ◌≤◌, ◌<◌}
use native.Mathlib.Omega.{arith}
use mathlib.Core.Path.{◌≡◌, refl, sym, ap, subst, ◌∙◌}
use mathlib.Core.Bool.{Bool, true, false, cond}
use mathlib.Core.List.{[], ◌∷◌}
use borrow.Author.Tests.{eq-eqb, ne_eqb, eqb-true, not-false}
use types.Run.{OneOf, miss}
use denote.Enum.Declared.{tag_of}
use Rattle.encode.specs.declared.Kind.{Kind}
use Rattle.encode.specs.declared.Kind.TheVariants.{Fixed, Char, Blob}
use Rattle.encode.specs.Kinds.{width_of}
use Rattle.encode.specs.contracts.Kind.{the_type as kind-type}
use Rattle.nullable.specs.Nullable.{bitmap_length}
use Rattle.format.specs.declared.Encoding.{Encoding}
use Rattle.format.specs.declared.Encoding.TheVariants.{Plain, Nullable, RunLength, RunLengthNullable, Dictionary}
use Rattle.encode.proofs.Bools.{and_then, clash as apart}
use Rattle.needs.specs.declared.Counted.{Counted}
use Rattle.needs.specs.Needs.{coded, flagged, keyed, stored_by, plain_bytes, inner_bytes, run_bytes, finished_bytes}
use Rattle.needs.specs.Needs.{bytes_wrong}
use Rattle.needs.specs.Tests.{rows_by, runs_by, inner_by}

-- ---- a plain block
module _ (k : Kind) (n len : ℕ) where
  pub plain-bare : OneOf (0 ∷ 1 ∷ []) (tag_of kind-type k) → len ≡ plain_bytes k n len
  unfolding plain_bytes
  plain-bare h = go k h
    where
      go : (k : Kind) → OneOf (0 ∷ 1 ∷ []) (tag_of kind-type k) → len ≡ plain_bytes k n len
      go (Fixed p) h = refl
      go (Char w) h = refl
      go (Blob text) h = absurd (miss (0 ∷ 1 ∷ []) 2 tt h)

  pub plain-blob : {text : Bool} → k ≡ Blob text → 4 * n + len ≡ plain_bytes k n len
  unfolding plain_bytes
  plain-blob q = subst (λ (j : Kind). 4 * n + len ≡ plain_bytes j n len) (sym q) refl

-- ---- an inner block
module _ (k : Kind) (n len : ℕ) {p : ℕ} (h : p ≡ plain_bytes k n len) where
  pub inner-flagged : {f : Bool} → f ≡ true → {b : ℕ} → b ≡ bitmap_length n → p + (b + 4) ≡ inner_by k f n len
  unfolding inner_by
  inner-flagged {f} t {b} q = go f t
    where
      go : (f : Bool) → f ≡ true → p + (b + 4) ≡ plain_bytes k n len + cond f (bitmap_length n + 4) 0
      go true t = cc
      go false t = apart (sym t)

  pub inner-bare : {f : Bool} → f ≡ false → p ≡ inner_by k f n len
  unfolding inner_by
  inner-bare {f} t = go f t
    where
      go : (f : Bool) → f ≡ false → p ≡ plain_bytes k n len + cond f (bitmap_length n + 4) 0
      go true t = apart t
      go false t = omega (arith, h)

module _ (r : Counted) (inner : ℕ) where
  pub run_none : r.runs ≡ 0 → 0 ≡ run_bytes r inner
  unfolding run_bytes
  run_none h = simp (eq-eqb r.runs 0 h)

  pub run-some : (r.runs ≡ 0 → ⊥) → 8 + r.counts + inner ≡ run_bytes r inner
  unfolding run_bytes
  run-some h = simp (ne_eqb r.runs 0 h)

-- ---- the finished block
module _ (k : Kind) (f : Bool) (r : Counted) {i : ℕ} where
  pub rows-block : i ≡ inner_by k f r.rows r.bytes → i ≡ finished_bytes k (rows_by f) r
  unfolding inner_by finished_bytes inner_bytes stored_by flagged coded keyed
  rows-block h = h ∙ go f
    where
      go : (f : Bool) → inner_by k f r.rows r.bytes ≡ finished_bytes k (rows_by f) r
      go true = refl
      go false = refl

  pub runs_block : i ≡ inner_by k f r.runs r.bytes → {x : ℕ} → x ≡ run_bytes r i → x ≡ finished_bytes k (runs_by f) r
  unfolding inner_by finished_bytes inner_bytes stored_by flagged coded keyed
  runs_block h p = p ∙ ap (run_bytes r) h ∙ go f
    where
      go : (f : Bool) → run_bytes r (inner_by k f r.runs r.bytes) ≡ finished_bytes k (runs_by f) r
      go true = refl
      go false = refl

pub keys-block :
    (k : Kind) (r : Counted) {x p : ℕ} → x ≡ run_bytes r (4 * r.runs) → p ≡ plain_bytes k r.entries r.bytes → 12 + x + p ≡ finished_bytes k Dictionary r
unfolding finished_bytes inner_bytes stored_by flagged coded keyed
keys-block k r h g = omega (arith, h, g)

-- ---- the record is wrong by itself
-- bytes of items mean items
some_stored : (k : Kind) (n len : ℕ) → bytes_wrong k n len ≡ false → 0 < len → n ≡ 0 → ⊥
unfolding bytes_wrong
some_stored (Fixed p) n len h g q =
    let e = eqb-true len (n * width_of p) (not-false _ h) in
    let z : n * width_of p ≡ 0 * width_of p = ap (λ (m : ℕ). m * width_of p) q in
    omega arith
some_stored (Char w) n len h g q =
    let e = eqb-true len (n * w) (not-false _ h) in
    let z : n * w ≡ 0 * w = ap (λ (m : ℕ). m * w) q in
    omega arith
some_stored (Blob text) n len h g q =
    let e = eqb-true len 0 (not-false _ (and_then {x = true} _ (sym (eq-eqb n 0 q)) refl ∙ h)) in
    omega arith

plain-least : (k : Kind) (n len : ℕ) → len ≤ plain_bytes k n len
unfolding plain_bytes
plain-least (Fixed p) n len = omega arith
plain-least (Char w) n len = omega arith
plain-least (Blob text) n len = omega arith

pub inner-least : (k : Kind) (e : Encoding) (r : Counted) → r.bytes ≤ inner_bytes k e r
unfolding inner_bytes
inner-least k e r = let h = plain-least k (stored_by e r) r.bytes in omega arith

pub finished-least :
    (k : Kind) (e : Encoding) (r : Counted) → bytes_wrong k (stored_by e r) r.bytes ≡ false → 0 < r.bytes → r.bytes ≤ finished_bytes k e r
unfolding finished_bytes stored_by keyed coded
finished-least k Plain r h g = inner-least k Plain r
finished-least k Nullable r h g = inner-least k Nullable r
finished-least k RunLength r h g =
    let i = inner-least k RunLength r in
    let z = run-some r (inner_bytes k RunLength r) (some_stored k r.runs r.bytes h g) in
    omega arith
finished-least k RunLengthNullable r h g =
    let i = inner-least k RunLengthNullable r in
    let z = run-some r (inner_bytes k RunLengthNullable r) (some_stored k r.runs r.bytes h g) in
    omega arith
finished-least k Dictionary r h g = let i = inner-least k Dictionary r in omega arith
