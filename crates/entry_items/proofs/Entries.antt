-- An entry as an item, for each kind that a match found: what reading it asks, how long the item is, and that what the code writes is the item. Assumes nothing.
use Prim.Native.Nat.{ℕ, zero, suc, ◌+◌, ◌-◌, ◌*◌, ◌≤◌, ◌<◌}
use native.Mathlib.Omega.{arith}
use mathlib.Core.Bool.{Bool, true}
use mathlib.Core.List.{List}
use mathlib.Core.Path.{◌≡◌, refl, sym, ap, subst, ◌∙◌}
use lib.IntN.{ℤ}
use lib.ListN.{length, take, drop, replicate, length-append, length-drop, length-replicate}
use lib.Seq.{sets, length-take-le}
use mir.Facts.{to_z-of_z}
use mir.Syntax.{w64}
use mir.Val.{SFits, of_z, to_z}
use Rattle.limits.specs.Limits.{MOST_ITEMS, MOST_BYTES, is_width}
use Rattle.encode.specs.Bytes.{in_eight}
use Rattle.encode.specs.Kinds.{shape_of, width_of, encoded, blob}
use Rattle.encode.specs.declared.Primitive.{Primitive}
use Rattle.encode.specs.declared.Kind.{Kind}
use Rattle.encode.specs.declared.Kind.TheVariants.{Fixed, Char, Blob}
use Rattle.encode.specs.declared.Shape.{Shape}
use Rattle.encode.specs.declared.Shape.TheVariants.{Bool as BoolShape, Low2, Low4, Low8, High4, High8}
use Rattle.encode.proofs.RoundTrip.{item-length, item-whole}
use Rattle.encode.proofs.Shapes.{wide_as}
use Rattle.area.proofs.Laws.{sets-append}
use Rattle.plain.specs.declared.Range.{Range}
use Rattle.plain.specs.Rows.{int_in, bytes_in}
use Rattle.plain.specs.Plain.{item_of, fixed_at, plain_row, least_bytes, ends_good}
use Rattle.plain.proofs.Chars.{length-char}
use Rattle.plain.proofs.Items.{item_room}
use Rattle.plain.proofs.Numbers.{width_few, plain-least}
use Rattle.plain.proofs.Ranges.{least-found, blob-least, blob-good}
use Rattle.dict.specs.Dictionary.{entry_row}
use Rattle.source.specs.Rows.{text_of}
use Rattle.repaired.specs.Repaired.{Entered}
use Rattle.repaired.proofs.Slots.{entry-stored}

-- an entry, counted from 1 on, as an item
abbrev pub entry_item : Kind → ℕ → List ℕ → ℕ → List ℕ
entry_item k n items slot = item_of k (entry_row k n items slot)

-- where the code found its bytes
abbrev pub Found : Kind → ℕ → List ℕ → ℕ → Range → Type 0
Found k n items slot r = (r.from + r.len ≤ length items) × (take r.len (drop r.from items) ≡ text_of k n items slot)

-- xs was written into d at a place; out is what d then holds, and to the place behind
abbrev pub Put : List ℕ → ℕ → List ℕ → ℕ → List ℕ → Type 0
Put d at xs to out = (to ≡ at + length xs) × (out ≡ sets d at xs)

-- it is the item before its count
row-there : (k : Kind) (n : ℕ) (items : List ℕ) (slot : ℕ) → 0 < slot → entry_row k n items slot ≡ plain_row k n items (slot - 1)
unfolding entry_row
row-there k n items zero h = absurd (omega arith)
row-there k n items (suc i) h = let e : suc i - 1 ≡ i = omega arith in rw e

-- ---- what reading it asks
pub entered-as : {k j : Kind} → k ≡ j → {n : ℕ} {items : List ℕ} → Entered k n items → Entered j n items
entered-as e {n} {items} g = subst (λ (j : Kind). Entered j n items) e g

pub value-asked :
    {k : Kind} {n : ℕ} {items : List ℕ} → Entered k n items → {p : Primitive} → k ≡ Fixed p → (i : ℕ) → i < n
    → (i < MOST_ITEMS) × (i * width_of p + width_of p ≤ length items)
unfolding least_bytes
value-asked {k} {n} {items} g {p} e i h =
    (omega (arith, g.few), item_room i n (width_of p) (length items) h (least-found e n items (plain-least k n items g.sound)))

module _ {k : Kind} {n : ℕ} {items : List ℕ} (g : Entered k n items) {slot : ℕ} (l : slot ≤ n) where
  pub char-asked : {w : ℕ} → k ≡ Char w → w < 256 → (slot ≤ n) × (n ≤ MOST_ITEMS) × (w < 256) × (least_bytes (Char w) n ≤ length items)
  char-asked e h = let s = entry-stored k n items g l in (l, s.few, h, least-found e n items s.whole)

  pub blob-asked :
      {text : Bool} → k ≡ Blob text
      → (slot ≤ n) × (n ≤ MOST_ITEMS) × (least_bytes blob n ≤ length items) × (0 < slot → ends_good blob n items (slot - 1) ≡ true)
  blob-asked e =
      let s = entry-stored k n items g l in
      (l, s.few, blob-least e n items s.whole, λ z. blob-good e n items (slot - 1) (s.good z))

-- ---- how long it is
found-length : (k : Kind) (n : ℕ) (items : List ℕ) (slot : ℕ) (r : Range) → Found k n items slot r → r.len ≡ length (text_of k n items slot)
found-length k n items slot r f =
    sym (length-take-le r.len (drop r.from items) (simp length-drop (omega (arith, f.0)))) ∙ ap length f.1

text-short : (w n : ℕ) (items : List ℕ) (slot : ℕ) → length (text_of (Char w) n items slot) ≤ w
unfolding text_of entry_row plain_row bytes_in
text-short w n items zero = omega arith
text-short w n items (suc i) = length-char w items i

module _ (n : ℕ) (items : List ℕ) (slot : ℕ) where
  module _ {k : Kind} where
    pub fixed-length : {p : Primitive} → k ≡ Fixed p → length (entry_item k n items slot) ≡ width_of p
    unfolding item_of
    fixed-length {p} e =
        ap (λ (j : Kind). length (entry_item j n items slot)) e ∙ item-length p (int_in (entry_row (Fixed p) n items slot))

    pub char-length : {w : ℕ} → k ≡ Char w → length (entry_item k n items slot) ≡ w
    unfolding item_of text_of
    char-length {w} e =
        let s : length (text_of (Char w) n items slot) ≤ w = text-short w n items slot in
        let h : length (entry_item (Char w) n items slot) ≡ w = rw (length-append, length-replicate) (omega arith) in
        ap (λ (j : Kind). length (entry_item j n items slot)) e ∙ h

    -- a string is laid out as a blob
    pub blob-item : {text : Bool} → k ≡ Blob text → entry_item k n items slot ≡ text_of blob n items slot
    unfolding item_of text_of entry_row plain_row
    blob-item {text} e = ap (λ (j : Kind). entry_item j n items slot) e ∙ alike slot
      where
        alike : (i : ℕ) → bytes_in (entry_row (Blob text) n items i) ≡ bytes_in (entry_row blob n items i)
        alike zero = refl
        alike (suc i) = refl

    -- the returns of `item_len`
    pub fixed-long : {p : Primitive} → k ≡ Fixed p → {r : ℕ} → r ≡ width_of p → (r ≡ length (entry_item k n items slot)) × (r ≤ MOST_BYTES)
    fixed-long {p} e h = (h ∙ sym (fixed-length e), omega (arith, width_few p h))

    pub char-long : {w : ℕ} → k ≡ Char w → w < 256 → (w ≡ length (entry_item k n items slot)) × (w ≤ MOST_BYTES)
    char-long e h = (sym (char-length e), omega arith)

    pub blob-long :
        {text : Bool} → k ≡ Blob text → length items ≤ MOST_BYTES → (r : Range) → Found blob n items slot r
        → (r.len ≡ length (entry_item k n items slot)) × (r.len ≤ MOST_BYTES)
    blob-long e h r f = (found-length blob n items slot r f ∙ ap length (sym (blob-item e)), omega (arith, f.0))

-- ---- a char as it is written: its bytes, then NULs up to the width
module _ (w n : ℕ) (items : List ℕ) (slot : ℕ) (r : Range) (f : Found (Char w) n items slot r) where
  pub char-short : r.len ≤ w
  char-short = omega (arith, found-length (Char w) n items slot r f, text-short w n items slot)

  pub char-put :
      (d : List ℕ) (at : ℕ) {d₁ d₂ : List ℕ} → d₁ ≡ sets d at (take r.len (drop r.from items))
      → d₂ ≡ sets d₁ (at + r.len) (replicate (w - r.len) 0) → d₂ ≡ sets d at (entry_item (Char w) n items slot)
  unfolding item_of text_of
  char-put d at h g =
      let t : List ℕ = text_of (Char w) n items slot in
      let m : r.len ≡ length t = found-length (Char w) n items slot r f in
      g
      ∙ ap (λ (l : List ℕ). sets l (at + r.len) (replicate (w - r.len) 0)) (h ∙ ap (sets d at) f.1)
      ∙ ap (λ (i : ℕ). sets (sets d at t) (at + i) (replicate (w - i) 0)) m
      ∙ sym (sets-append t (replicate (w - length t) 0) d at)

-- ---- an item of the kind that was found, as it is written
width-told : (s : Shape) → is_width (wide_as s) ≡ true
width-told BoolShape = refl
width-told Low2 = refl
width-told Low4 = refl
width-told Low8 = refl
width-told High4 = refl
width-told High8 = refl

module _ (k : Kind) (n : ℕ) (items : List ℕ) (slot : ℕ) (d : List ℕ) (at : ℕ) where
  abbrev Room : Type 0
  Room = at + length (entry_item k n items slot) ≤ length d

  module _ {p : Primitive} (e : k ≡ Fixed p) {w : ℕ} (q : w ≡ width_of p) where
    pub fixed-room : Room → at + w ≤ length d
    fixed-room m = omega (arith, fixed-length n items slot e)

    pub fixed-asked : Room → (is_width w ≡ true) × (at + w ≤ length d)
    fixed-asked m = (ap is_width q ∙ width-told (shape_of p), fixed-room m)

    pub fixed-put :
        0 < slot → (v : ℤ) → SFits w64 v → v ≡ fixed_at p items (slot - 1) → {item : List ℕ} → item ≡ in_eight (encoded p (to_z w64 (of_z w64 v)))
        → {out : List ℕ} → out ≡ sets d at (take w item) → {w' : ℕ} → w' ≡ width_of p → Put d at (entry_item k n items slot) (at + w') out
    unfolding item_of plain_row int_in
    fixed-put z v s x {item} i h b =
        let r : encoded p v ≡ entry_item (Fixed p) n items slot = ap (encoded p) (x ∙ ap int_in (sym (row-there (Fixed p) n items slot z))) in (
          ap (λ (j : ℕ). at + j) (b ∙ sym (fixed-length n items slot e)),
          h
              ∙ ap (λ (j : ℕ). sets d at (take j item)) q
              ∙ ap (λ (l : List ℕ). sets d at (take (width_of p) l)) (i ∙ ap (λ (u : ℤ). in_eight (encoded p u)) (to_z-of_z s))
              ∙ ap (sets d at) (item-whole p v ∙ r ∙ ap (λ (j : Kind). entry_item j n items slot) (sym e)),
        )

  module _ {w : ℕ} (e : k ≡ Char w) where
    pub char-room : Room → at + w ≤ length d
    char-room m = omega (arith, char-length n items slot e)

    pub char-written : {out : List ℕ} → out ≡ sets d at (entry_item (Char w) n items slot) → Put d at (entry_item k n items slot) (at + w) out
    char-written h =
        (ap (λ (j : ℕ). at + j) (sym (char-length n items slot e)), h ∙ ap (λ (j : Kind). sets d at (entry_item j n items slot)) (sym e))

  module _ {text : Bool} (e : k ≡ Blob text) (r : Range) (f : Found blob n items slot r) where
    same_length : r.len ≡ length (entry_item k n items slot)
    same_length = found-length blob n items slot r f ∙ ap length (sym (blob-item n items slot e))

    pub blob-room : Room → (r.from + r.len ≤ length items) × (at + r.len ≤ length d)
    blob-room m = (f.0, omega (arith, same_length))

    pub blob-put : {out : List ℕ} → out ≡ sets d at (take r.len (drop r.from items)) → Put d at (entry_item k n items slot) (at + r.len) out
    blob-put h = (ap (λ (j : ℕ). at + j) same_length, h ∙ ap (sets d at) (f.1 ∙ sym (blob-item n items slot e)))
