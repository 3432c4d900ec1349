-- The entries as a plain block, by the kind that a match found: their items, or a blob's ends and then its items. Assumes nothing.
use Prim.Native.Nat.{ℕ, ◌+◌, ◌*◌, ◌≤◌}
use native.Mathlib.Omega.{arith}
use mathlib.Core.Bool.{Bool}
use mathlib.Core.List.{List, [], ◌∷◌, ◌++◌}
use mathlib.Core.Path.{◌≡◌, refl, sym, ap, subst, ◌∙◌}
use lib.ListN.{length, length-append}
use lib.Seq.{sets, length-sets}
use types.Run.{OneOf, miss}
use denote.Enum.Declared.{tag_of}
use Rattle.encode.specs.declared.Kind.{Kind}
use Rattle.encode.specs.declared.Kind.TheVariants.{Fixed, Char, Blob}
use Rattle.encode.specs.contracts.Kind.{the_type}
use Rattle.area.proofs.Laws.{sets-append}
use Rattle.plain.specs.Rows.{Row}
use Rattle.plain.specs.Plain.{joined, item_of, plain_of}
use Rattle.repaired_entries.proofs.Laying.{end_bytes, length-ends}

items-alone : (k : Kind) → OneOf (0 ∷ 1 ∷ []) (tag_of the_type k) → (es : List Row) → joined (item_of k) es ≡ plain_of k es
unfolding plain_of
items-alone (Fixed p) h es = refl
items-alone (Char w) h es = refl
items-alone (Blob text) h es = absurd (miss (0 ∷ 1 ∷ []) 2 tt h)

ends-first : (k : Kind) (text : Bool) → k ≡ Blob text → (es : List Row) → end_bytes (item_of k) 0 es ++ joined (item_of k) es ≡ plain_of k es
unfolding plain_of
ends-first k text e es = subst (λ (j : Kind). end_bytes (item_of j) 0 es ++ joined (item_of j) es ≡ plain_of j es) (sym e) refl

module _ (k : Kind) (es : List Row) (d : List ℕ) (at : ℕ) where
  abbrev Room : Type 0
  Room = at + length (plain_of k es) ≤ length d

  -- ---- items alone
  module _ (h : OneOf (0 ∷ 1 ∷ []) (tag_of the_type k)) where
    pub alone-room : Room → at + length (joined (item_of k) es) ≤ length d
    alone-room r = omega (arith, ap length (items-alone k h es))

    pub alone-laid : {out : List ℕ} → out ≡ sets d at (joined (item_of k) es) → out ≡ sets d at (plain_of k es)
    alone-laid q = q ∙ ap (sets d at) (items-alone k h es)

  -- ---- ends, then items
  module _ {text : Bool} (e : k ≡ Blob text) where
    parts-long : length (plain_of k es) ≡ 4 * length es + length (joined (item_of k) es)
    parts-long =
        ap length (sym (ends-first k text e es)) ∙ length-append (end_bytes (item_of k) 0 es) (joined (item_of k) es)
        ∙ ap (λ (m : ℕ). m + length (joined (item_of k) es)) (length-ends (item_of k) 0 es)

    pub parts-room : Room → at + (4 * length es + length (joined (item_of k) es)) ≤ length d
    parts-room r = omega (arith, parts-long)

    module _ {out : List ℕ} (q : out ≡ sets d at (end_bytes (item_of k) 0 es)) {kept : ℕ} (m : kept ≡ length es) where
      pub behind-room : Room → at + 4 * kept + length (joined (item_of k) es) ≤ length out
      behind-room r = omega (arith, parts-long, m, ap length q ∙ length-sets d at (end_bytes (item_of k) 0 es))

      pub parts-laid : {out' : List ℕ} → out' ≡ sets out (at + 4 * kept) (joined (item_of k) es) → out' ≡ sets d at (plain_of k es)
      parts-laid p =
          let b : at + 4 * kept ≡ at + length (end_bytes (item_of k) 0 es) = omega (arith, m, length-ends (item_of k) 0 es) in
          p
          ∙ ap (λ (l : List ℕ). sets l (at + 4 * kept) (joined (item_of k) es)) q
          ∙ ap (λ (j : ℕ). sets (sets d at (end_bytes (item_of k) 0 es)) j (joined (item_of k) es)) b
          ∙ sym (sets-append (end_bytes (item_of k) 0 es) (joined (item_of k) es) d at)
          ∙ ap (sets d at) (ends-first k text e es)
