-- Two items next to each other: what is known of each, and what the code's tests say of `same`, for each kind that a match found. Assumes nothing.
use Prim.Native.Nat.{ℕ, zero, suc, ◌+◌, ◌-◌, ◌*◌, ◌≤◌, ◌<◌}
use native.Mathlib.Omega.{arith}
use mathlib.Core.Path.{◌≡◌, refl, sym, ap, subst, ◌∙◌}
use mathlib.Core.Bool.{Bool, true, false, ◌&&◌}
use lib.Pointwise.{pointwise}
use mathlib.Core.List.{List, [], ◌∷◌}
use borrow.Author.Tests.{eqb-true, eqb-false, eq-eqb, ne_eqb}
use lib.Dec.{eqb}
use lib.IntN.{ℤ}
use lib.ListN.{length, take, drop, get_or, length-drop}
use lib.Seq.{length-take-le, get_or-take, get_or-drop}
use mir.Syntax.{w64}
use mir.Val.{SFits, of_z}
use Rattle.limits.specs.Limits.{MOST_ITEMS}
use Rattle.encode.specs.Kinds.{width_of, blob}
use Rattle.encode.specs.declared.Kind.{Kind}
use Rattle.encode.specs.declared.Kind.TheVariants.{Fixed, Char, Blob}
use Rattle.encode.specs.declared.Primitive.{Primitive}
use Rattle.plain.specs.Rows.{null, same_int, same_bytes, same}
use Rattle.plain.specs.Plain.{fixed_at, plain_row, least_bytes}
use Rattle.plain.proofs.Items.{item_room}
use Rattle.plain.proofs.Ranges.{blob-least, blob-good}
use Rattle.lookup.proofs.Alike.{int-bits}
use Rattle.dict.specs.Dictionary.{entry_row}
use Rattle.matching.specs.Matching.{There, Stored}

-- a test of two numbers, the other way round
pub eqb_swap : (m n : ℕ) → eqb m n ≡ eqb n m
eqb_swap m n = by (eqb m n) refl
  where
    by : (x : Bool) → eqb m n ≡ x → x ≡ eqb n m
    by true h = sym (eq-eqb n m (sym (eqb-true m n h)))
    by false h = sym (ne_eqb n m (λ e. eqb-false m n h (sym e)))

-- of two values, by their bits
pub values_same : (u v : ℤ) → SFits w64 u → SFits w64 v → eqb (of_z w64 u) (of_z w64 v) ≡ same_int u v
values_same u v f g = eqb_swap (of_z w64 u) (of_z w64 v) ∙ int-bits v u g f

-- ---- items that are counted from 1 on
pub there : {k : Kind} {n : ℕ} {items : List ℕ} {slot : ℕ} → Stored k n items slot → (slot ≡ 0 → ⊥) → There k n items (slot - 1)
there {slot = slot} s z =
    let l : 0 < slot = omega (arith, z) in
    record { few = s.few; inside = omega (arith, s.inside); whole = s.whole; good = s.good l }

null-apart : (k : Kind) (n : ℕ) (items : List ℕ) (i : ℕ) → (same null (plain_row k n items i) ≡ false) × (same (plain_row k n items i) null ≡ false)
unfolding same plain_row
null-apart (Fixed p) n items i = (refl, refl)
null-apart (Char w) n items i = (refl, refl)
null-apart (Blob text) n items i = (refl, refl)

-- the three ways through `same_slot`
module _ (k : Kind) (n : ℕ) (items : List ℕ) (m : ℕ) (others : List ℕ) where
  pub null-first : (slot other : ℕ) → slot ≡ 0 → eqb other 0 ≡ same (entry_row k n items slot) (entry_row k m others other)
  unfolding entry_row same
  null-first zero zero z = refl
  null-first zero (suc j) z = ne_eqb (suc j) 0 (λ e. omega (arith, e)) ∙ sym (null-apart k m others j).0
  null-first (suc i) other z = absurd (omega (arith, z))

  pub null-second : (slot other : ℕ) → (slot ≡ 0 → ⊥) → other ≡ 0 → false ≡ same (entry_row k n items slot) (entry_row k m others other)
  unfolding entry_row
  null-second zero other z e = absurd (z refl)
  null-second (suc i) zero z e = sym (null-apart k n items i).1
  null-second (suc i) (suc j) z e = absurd (omega (arith, e))

  pub both_some :
      (slot other : ℕ) {r : Bool} → (slot ≡ 0 → ⊥) → (other ≡ 0 → ⊥) → r ≡ same (plain_row k n items (slot - 1)) (plain_row k m others (other - 1))
      → r ≡ same (entry_row k n items slot) (entry_row k m others other)
  unfolding entry_row
  both_some zero other z y q = absurd (z refl)
  both_some (suc i) zero z y q = absurd (y refl)
  both_some (suc i) (suc j) z y q =
      let a : suc i - 1 ≡ i = omega arith in
      let b : suc j - 1 ≡ j = omega arith in
      rw (a, b) at q

-- ---- a kind that a match found
pub there-found : {k j : Kind} → k ≡ j → {n : ℕ} {items : List ℕ} {i : ℕ} → There k n items i → There j n items i
there-found e {n} {items} {i} t = subst (λ (j : Kind). There j n items i) e t

-- a value's bytes are there
pub fixed-room : {p : Primitive} {n : ℕ} {items : List ℕ} {i : ℕ} → There (Fixed p) n items i → (i < MOST_ITEMS) × (i * width_of p + width_of p ≤ length items)
unfolding least_bytes
fixed-room {p} {n} {items} {i} t = (omega (arith, t.few, t.inside), item_room i n (width_of p) (length items) t.inside t.whole)

-- a string is laid out as a blob
pub as-blob : {k : Kind} {text : Bool} → k ≡ Blob text → {n : ℕ} {items : List ℕ} {i : ℕ} → There k n items i → There blob n items i
as-blob e {n} {items} {i} t = record { few = t.few; inside = t.inside; whole = blob-least e n items t.whole; good = blob-good e n items i t.good }

module _ {k : Kind} (n : ℕ) (items : List ℕ) (i m : ℕ) (others : List ℕ) (j : ℕ) {r : Bool} where
  -- u and v are the values that the code reads
  pub fixed_same :
      {p : Primitive} → k ≡ Fixed p → {u v : ℤ} → r ≡ same_int u v → u ≡ fixed_at p items i → v ≡ fixed_at p others j
      → r ≡ same (plain_row k n items i) (plain_row k m others j)
  unfolding same plain_row
  fixed_same {p} e {u} {v} q a b =
      subst (λ (j' : Kind). r ≡ same (plain_row j' n items i) (plain_row j' m others j)) (sym e)
      (q ∙ ap (λ (z : ℤ). same_int z v) a ∙ ap (same_int (fixed_at p items i)) b)

  pub char-same : {w : ℕ} → k ≡ Char w → r ≡ same (plain_row (Char w) n items i) (plain_row (Char w) m others j) → r ≡ same (plain_row k n items i) (plain_row k m others j)
  char-same e q = subst (λ (j' : Kind). r ≡ same (plain_row j' n items i) (plain_row j' m others j)) (sym e) q

  pub blob-same : {text : Bool} → k ≡ Blob text → r ≡ same (plain_row blob n items i) (plain_row blob m others j) → r ≡ same (plain_row k n items i) (plain_row k m others j)
  unfolding plain_row
  blob-same e q = subst (λ (j' : Kind). r ≡ same (plain_row j' n items i) (plain_row j' m others j)) (sym e) q

-- ---- two parts of two slices
pub parts_same : {r : Bool} {xs ys us vs : List ℕ} → r ≡ same_bytes xs ys → xs ≡ us → ys ≡ vs → r ≡ same_bytes us vs
parts_same {ys = ys} {us = us} q e d = q ∙ ap (λ (l : List ℕ). same_bytes l ys) e ∙ ap (same_bytes us) d

-- the bytes of a part
module _ (a : List ℕ) (from len : ℕ) where
  pub part_length : from + len ≤ length a → length (take len (drop from a)) ≡ len
  part_length h = length-take-le len (drop from a) (simp length-drop (omega arith))

  pub part-byte : (i : ℕ) → i < len → get_or (take len (drop from a)) i 0 ≡ get_or a (from + i) 0
  part-byte i h = rw (get_or-take, get_or-drop)

  pub first-byte : 0 < len → get_or (take len (drop from a)) 0 0 ≡ get_or a from 0
  first-byte h = let e : from + 0 ≡ from = omega arith in part-byte 0 h ∙ ap (λ (k : ℕ). get_or a k 0) e

pub lengths-differ : (xs ys : List ℕ) → (length xs ≡ length ys → ⊥) → false ≡ same_bytes xs ys
unfolding same_bytes
lengths-differ [] [] h = absurd (h refl)
lengths-differ [] (y ∷ ys) h = refl
lengths-differ (x ∷ xs) [] h = refl
lengths-differ (x ∷ xs) (y ∷ ys) h =
    let r = lengths-differ xs ys (λ e. h (omega (arith, e))) in
    by (eqb x y) refl r
  where
    by : (b : Bool) → eqb x y ≡ b → false ≡ same_bytes xs ys → false ≡ (eqb x y && same_bytes xs ys)
    by true e r = rw e r
    by false e r = rw e refl

-- the first bytes differ
pub firsts-differ : (xs ys : List ℕ) → 0 < length xs → 0 < length ys → (get_or xs 0 0 ≡ get_or ys 0 0 → ⊥) → false ≡ same_bytes xs ys
unfolding same_bytes
firsts-differ [] ys h l d = absurd (omega (arith, h))
firsts-differ (x ∷ xs) [] h l d = absurd (omega (arith, l))
firsts-differ (x ∷ xs) (y ∷ ys) h l d = rw (ne_eqb x y d) refl

-- as the library compares slices
pointwise-same : (xs ys : List ℕ) → pointwise eqb xs ys ≡ same_bytes xs ys
unfolding same_bytes
pointwise-same [] [] = refl
pointwise-same [] (y ∷ ys) = refl
pointwise-same (x ∷ xs) [] = refl
pointwise-same (x ∷ xs) (y ∷ ys) = ap (λ (b : Bool). eqb x y && b) (pointwise-same xs ys)

pub bytes_same : {r : Bool} (xs ys : List ℕ) → r ≡ pointwise eqb xs ys → r ≡ same_bytes xs ys
bytes_same xs ys e = e ∙ pointwise-same xs ys
