-- The rules of the kind that a match found, by what the code made of the length, of the ends and of the items. Assumes nothing.
use Prim.Native.Nat.{ℕ, ◌*◌, ◌≤◌}
use mathlib.Core.Bool.{Bool, true, false, not}
use mathlib.Core.List.{List}
use mathlib.Core.Path.{◌≡◌, sym, ap, subst, ◌∙◌}
use borrow.Author.Tests.{eq-eqb, ne_eqb}
use lib.Dec.{eqb}
use lib.ListN.{length}
use Rattle.limits.specs.Refusals.{LENGTH}
use Rattle.encode.specs.Kinds.{width_of, blob, string}
use Rattle.encode.specs.declared.Primitive.{Primitive}
use Rattle.encode.specs.declared.Kind.{Kind}
use Rattle.encode.specs.declared.Kind.TheVariants.{Fixed, Char, Blob}
use Rattle.plain.specs.Rules.{◌if◌}
use Rattle.plain.specs.Plain.{lengths_number, all_text, least_bytes}
use Rattle.plain.proofs.Numbers.{lengths-least}

-- ---- a length that is the right one, or another
module _ (len due : ℕ) where
  pub length-kept : len ≡ due → 0 ≡ LENGTH if not (eqb len due)
  length-kept e = ap (λ (t : Bool). LENGTH if not t) (sym (eq-eqb len due e))

  pub length-broken : (len ≡ due → ⊥) → LENGTH ≡ LENGTH if not (eqb len due)
  length-broken e = ap (λ (t : Bool). LENGTH if not t) (sym (ne_eqb len due e))

-- ---- the length and the ends
module _ {k : Kind} (n : ℕ) (s : List ℕ) {r : ℕ} where
  pub fixed-lengths : (p : Primitive) {w : ℕ} → k ≡ Fixed p → w ≡ width_of p → r ≡ LENGTH if not (eqb (length s) (n * w)) → r ≡ lengths_number k n s
  unfolding lengths_number
  fixed-lengths p e f h = h ∙ ap (λ (v : ℕ). LENGTH if not (eqb (length s) (n * v))) f ∙ ap (λ (j : Kind). lengths_number j n s) (sym e)

  pub char-lengths : {w : ℕ} → k ≡ Char w → r ≡ LENGTH if not (eqb (length s) (n * w)) → r ≡ lengths_number k n s
  unfolding lengths_number
  char-lengths e h = h ∙ ap (λ (j : Kind). lengths_number j n s) (sym e)

  pub blob-lengths : {text : Bool} → k ≡ Blob text → r ≡ lengths_number blob n s → r ≡ lengths_number k n s
  unfolding lengths_number
  blob-lengths e h = h ∙ ap (λ (j : Kind). lengths_number j n s) (sym e)

-- what the rules of the lengths say of chars and of strings
module _ {k : Kind} (n : ℕ) (s : List ℕ) (z : lengths_number k n s ≡ 0) where
  pub char-bytes : {w : ℕ} → k ≡ Char w → n * w ≤ length s
  unfolding least_bytes
  char-bytes e = subst (λ (j : Kind). least_bytes j n ≤ length s) e (lengths-least k n s z)

  pub blob-bytes : {text : Bool} → k ≡ Blob text → lengths_number blob n s ≡ 0
  unfolding lengths_number
  blob-bytes e = subst (λ (j : Kind). lengths_number j n s ≡ 0) e z

-- ---- text
module _ {k : Kind} (n : ℕ) (s : List ℕ) where
  pub fixed-text : {p : Primitive} → k ≡ Fixed p → true ≡ all_text k n s
  unfolding all_text
  fixed-text e = ap (λ (j : Kind). all_text j n s) (sym e)

  pub char-text : {w : ℕ} {r : Bool} → k ≡ Char w → r ≡ all_text (Char w) n s → r ≡ all_text k n s
  char-text e h = h ∙ ap (λ (j : Kind). all_text j n s) (sym e)

  module _ {text : Bool} (e : k ≡ Blob text) where
    pub string-text : {r : Bool} → text ≡ true → r ≡ all_text string n s → r ≡ all_text k n s
    string-text t h = h ∙ ap (λ (b : Bool). all_text (Blob b) n s) (sym t) ∙ ap (λ (j : Kind). all_text j n s) (sym e)

    pub blob-text : text ≡ false → true ≡ all_text k n s
    unfolding all_text
    blob-text t = ap (λ (b : Bool). all_text (Blob b) n s) (sym t) ∙ ap (λ (j : Kind). all_text j n s) (sym e)
