-- The item of a row by its kind: whether the row fits, how long the item is, and that what the code writes of it is the item. Assumes nothing.
use Prim.Native.Nat.{ℕ, ◌+◌, ◌-◌, ◌≤◌, ◌<◌}
use native.Mathlib.Omega.{arith}
use borrow.Author.Tests.{lt-leb, le-leb}
use mathlib.Core.Bool.{Bool, true, false, cond}
use mathlib.Core.List.{List, ◌++◌}
use mathlib.Core.Path.{◌≡◌, refl, sym, ap, ◌∙◌}
use lib.IntN.{ℤ}
use lib.ListN.{length, take, drop, replicate, length-append, length-replicate}
use lib.Seq.{sets, take-length}
use mir.Facts.{to_z-of_z}
use mir.Syntax.{w64}
use mir.Val.{SFits, of_z, to_z}
use Rattle.limits.specs.Limits.{is_width}
use Rattle.encode.specs.Bytes.{in_eight}
use Rattle.encode.specs.Kinds.{shape_of, width_of, default_value, encoded, takes, blob}
use Rattle.encode.specs.declared.Primitive.{Primitive}
use Rattle.encode.specs.declared.Kind.{Kind}
use Rattle.encode.specs.declared.Kind.TheVariants.{Fixed, Char, Blob}
use Rattle.encode.specs.declared.Shape.{Shape}
use Rattle.encode.specs.declared.Shape.TheVariants.{Bool as BoolShape, Low2, Low4, Low8, High4, High8}
use Rattle.encode.proofs.RoundTrip.{item-length, item-whole}
use Rattle.encode.proofs.Shapes.{wide_as}
use Rattle.area.specs.Area.{over}
use Rattle.area.proofs.Laws.{over-sets, over_none, sets-append}
use Rattle.plain.specs.Rows.{Row, null, int, bytes, value_of, row_of, int_in, bytes_in, fits}
use Rattle.plain.specs.Plain.{item_of}
use Rattle.plain.proofs.Each.{char-short as char-most}
use Rattle.utf8.specs.Utf8.{is_text}

-- ---- whether a row fits
null-fits : (k : Kind) → true ≡ fits k null
unfolding fits
null-fits (Fixed p) = refl
null-fits (Char w) = refl
null-fits (Blob text) = refl

module _ (k : Kind) (present : Bool) (v : ℤ) (bs : List ℕ) where
  pub fits-none : present ≡ false → true ≡ fits k (row_of k present v bs)
  unfolding row_of
  fits-none t = rw t (null-fits k)

  -- a signed argument reaches the callee as its bits read back
  pub fits-fixed : (p : Primitive) → k ≡ Fixed p → present ≡ true → SFits w64 v
      → {r : Bool} → r ≡ takes p (to_z w64 (of_z w64 v)) → r ≡ fits k (row_of k present v bs)
  unfolding row_of value_of fits
  fits-fixed p e t f h = rw (e, t) (h ∙ ap (takes p) (to_z-of_z f))

  pub fits-char : {w : ℕ} → k ≡ Char w → present ≡ true → {r : Bool} → r ≡ fits (Char w) (bytes bs) → r ≡ fits k (row_of k present v bs)
  unfolding row_of value_of
  fits-char e t h = rw (e, t) h

  pub fits-blob : {text : Bool} → k ≡ Blob text → present ≡ true → {r : Bool} → r ≡ fits (Blob text) (bytes bs) → r ≡ fits k (row_of k present v bs)
  unfolding row_of value_of
  fits-blob e t h = rw (e, t) h

-- bytes of char, of blob and of string; r is what was made of all of them
module _ (bs : List ℕ) where
  module _ (w : ℕ) where
    pub char-long-refused : w < length bs → false ≡ fits (Char w) (bytes bs)
    unfolding fits
    char-long-refused l = simp (lt-leb (length bs) w l)

    pub char-looked-at : length bs ≤ w → {r : Bool} → r ≡ is_text (take (length bs) (drop 0 bs)) → r ≡ fits (Char w) (bytes bs)
    unfolding fits
    char-looked-at l h = h ∙ ap is_text (take-length bs) ∙ simp (le-leb (length bs) w l)

  module _ {text : Bool} where
    pub blob-taken : text ≡ false → true ≡ fits (Blob text) (bytes bs)
    unfolding fits
    blob-taken t = rw t

    pub string-looked-at : text ≡ true → {r : Bool} → r ≡ is_text (take (length bs) (drop 0 bs)) → r ≡ fits (Blob text) (bytes bs)
    unfolding fits
    string-looked-at t h = h ∙ ap is_text (take-length bs) ∙ rw t

-- ---- how long an item is
-- a char that fits is no longer than the width, and filled up it is as long
char-length : (w : ℕ) (r : Row) → fits (Char w) r ≡ true → w ≡ length (item_of (Char w) r)
unfolding item_of
char-length w r h = let l : length (bytes_in r) ≤ w = char-most w r h in rw (length-append, length-replicate) (omega arith)

module _ (k : Kind) (present : Bool) (v : ℤ) (bs : List ℕ) where
  pub fixed-long : (p : Primitive) → k ≡ Fixed p → {n : ℕ} → n ≡ width_of p → n ≡ length (item_of k (row_of k present v bs))
  unfolding item_of
  fixed-long p e h = rw e (h ∙ sym (item-length p (int_in (row_of (Fixed p) present v bs))))

  pub char-long : (w : ℕ) → k ≡ Char w → fits k (row_of k present v bs) ≡ true → w ≡ length (item_of k (row_of k present v bs))
  char-long w e h = rw e (char-length w (row_of (Char w) present v bs) (rw e at h))

  pub blob-long : {text : Bool} → k ≡ Blob text → {n : ℕ} → n ≡ length (bytes_in (cond present (bytes bs) null)) → n ≡ length (item_of k (row_of k present v bs))
  unfolding item_of row_of value_of
  blob-long e h = rw e h

-- ---- the width beside an encoded item
width-told : (s : Shape) → is_width (wide_as s) ≡ true
width-told BoolShape = refl
width-told Low2 = refl
width-told Low4 = refl
width-told Low8 = refl
width-told High4 = refl
width-told High8 = refl

module _ (p : Primitive) {w : ℕ} (e : w ≡ width_of p) where
  pub width-given : is_width w ≡ true
  width-given = rw e (width-told (shape_of p))

  pub wide_room : (at m : ℕ) → at + width_of p ≤ m → at + w ≤ m
  wide_room at m h = rw e h

  pub wide-put : (d item : List ℕ) (at : ℕ) {d' : List ℕ} → d' ≡ sets d at (take w item) → d' ≡ sets d at (take (width_of p) item)
  wide-put d item at h = rw e at h

-- ---- the item as it is written
module _ (d : List ℕ) (at : ℕ) where
  module _ (p : Primitive) (present : Bool) (v : ℤ) (m : at + length (item_of (Fixed p) (cond present (int v) null)) ≤ length d) where
    pub fixed-room : at + width_of p ≤ length d
    unfolding item_of
    fixed-room = rw item-length at m

    encoded-put : {item d' : List ℕ} (z : ℤ) → z ≡ int_in (cond present (int v) null) → item ≡ in_eight (encoded p z)
        → d' ≡ sets d at (take (width_of p) item) → d' ≡ over d at (item_of (Fixed p) (cond present (int v) null))
    unfolding item_of
    encoded-put z q i h =
        h
        ∙ ap (λ (l : List ℕ). sets d at (take (width_of p) l)) i
        ∙ ap (sets d at) (item-whole p z ∙ ap (encoded p) q)
        ∙ over-sets (item_of (Fixed p) (cond present (int v) null)) d at m

    -- a signed number reaches a callee as its bits read back
    pub fixed-put : {item d' : List ℕ} → present ≡ true → SFits w64 v → item ≡ in_eight (encoded p (to_z w64 (of_z w64 v)))
        → d' ≡ sets d at (take (width_of p) item) → d' ≡ over d at (item_of (Fixed p) (cond present (int v) null))
    unfolding int_in
    fixed-put t f = encoded-put (to_z w64 (of_z w64 v)) (rw t (to_z-of_z f))

    pub default-put : {item d' : List ℕ} → present ≡ false → (z : ℤ) → z ≡ default_value → item ≡ in_eight (encoded p (to_z w64 (of_z w64 z)))
        → d' ≡ sets d at (take (width_of p) item) → d' ≡ over d at (item_of (Fixed p) (cond present (int v) null))
    unfolding int_in
    default-put t z e = encoded-put (to_z w64 (of_z w64 z)) (rw (t, e))

  module _ (bs : List ℕ) where
    bytes-put : at + length bs ≤ length d → {d' : List ℕ} → d' ≡ sets d at (take (length bs) (drop 0 bs)) → d' ≡ over d at bs
    bytes-put m h = h ∙ ap (sets d at) (take-length bs) ∙ over-sets bs d at m

    -- bytes, then zeros
    padded-put : (n : ℕ) → at + length (bs ++ replicate n 0) ≤ length d → {d₁ d₂ : List ℕ} → d₁ ≡ sets d at (take (length bs) (drop 0 bs))
        → d₂ ≡ sets d₁ (at + length bs) (replicate n 0) → d₂ ≡ over d at (bs ++ replicate n 0)
    padded-put n m h g =
        g
        ∙ ap (λ (l : List ℕ). sets l (at + length bs) (replicate n 0)) (h ∙ ap (sets d at) (take-length bs))
        ∙ sym (sets-append bs (replicate n 0) d at)
        ∙ over-sets (bs ++ replicate n 0) d at m

-- ---- the item of a char, given or null; of a blob
module _ (present : Bool) (bs d : List ℕ) (at : ℕ) where
  module _
      (w : ℕ) (f : fits (Char w) (cond present (bytes bs) null) ≡ true)
      (m : at + length (item_of (Char w) (cond present (bytes bs) null)) ≤ length d) where
    pub char-room : at + w ≤ length d
    char-room = let e = char-length w (cond present (bytes bs) null) f in omega arith

    pub char-short : present ≡ true → length bs ≤ w
    unfolding bytes_in
    char-short t = rw t at (char-most w (cond present (bytes bs) null) f)

    pub char-put : present ≡ true → {d₁ d₂ : List ℕ} → d₁ ≡ sets d at (take (length bs) (drop 0 bs))
        → d₂ ≡ sets d₁ (at + length bs) (replicate (w - length bs) 0) → d₂ ≡ over d at (item_of (Char w) (cond present (bytes bs) null))
    unfolding item_of bytes_in
    char-put t h g = rw t (padded-put d at bs (w - length bs) (rw t at m) h g)

    pub char-none : present ≡ false → {d' : List ℕ} → d' ≡ sets d at (replicate w 0)
        → d' ≡ over d at (item_of (Char w) (cond present (bytes bs) null))
    unfolding item_of bytes_in
    char-none t h = let z : w - 0 ≡ w = omega arith in rw (t, z) (h ∙ over-sets (replicate w 0) d at (rw (t, z) at m))

  module _ (m : at + length (item_of blob (cond present (bytes bs) null)) ≤ length d) where
    pub blob-room : present ≡ true → at + length bs ≤ length d
    unfolding item_of bytes_in
    blob-room t = rw t at m

    pub blob-put : present ≡ true → {d' : List ℕ} → d' ≡ sets d at (take (length bs) (drop 0 bs))
        → d' ≡ over d at (item_of blob (cond present (bytes bs) null))
    unfolding item_of bytes_in
    blob-put t h = rw t (bytes-put d at bs (rw t at m) h)

  pub blob-none : present ≡ false → d ≡ over d at (item_of blob (cond present (bytes bs) null))
  unfolding item_of bytes_in
  blob-none t = rw t (sym (over_none d at))

-- ---- the item of the kind that was found
pub char-fits : (k : Kind) (present : Bool) (v : ℤ) (bs : List ℕ) (w : ℕ) → k ≡ Char w → fits k (row_of k present v bs) ≡ true
    → fits (Char w) (cond present (bytes bs) null) ≡ true
unfolding row_of value_of
char-fits k present v bs w e h = rw e at h

module _ (k : Kind) (present : Bool) (v : ℤ) (bs d : List ℕ) (at : ℕ) where
  module _ (p : Primitive) (e : k ≡ Fixed p) (f : SFits w64 v) where
    pub fixed-asked : at + length (item_of k (row_of k present v bs)) ≤ length d
        → at + length (item_of (Fixed p) (cond present (int (to_z w64 (of_z w64 v))) null)) ≤ length d
    unfolding row_of value_of
    fixed-asked m = rw (to_z-of_z f) (rw e at m)

    pub fixed-found : {d' : List ℕ} → d' ≡ over d at (item_of (Fixed p) (cond present (int (to_z w64 (of_z w64 v))) null))
        → d' ≡ over d at (item_of k (row_of k present v bs))
    unfolding row_of value_of
    fixed-found h = rw e (rw (to_z-of_z f) at h)

  module _ (w : ℕ) (e : k ≡ Char w) where
    pub char-asked : at + length (item_of k (row_of k present v bs)) ≤ length d → at + length (item_of (Char w) (cond present (bytes bs) null)) ≤ length d
    unfolding row_of value_of
    char-asked m = rw e at m

    pub char-found : {d' : List ℕ} → d' ≡ over d at (item_of (Char w) (cond present (bytes bs) null)) → d' ≡ over d at (item_of k (row_of k present v bs))
    unfolding row_of value_of
    char-found h = rw e h

  module _ {text : Bool} (e : k ≡ Blob text) where
    pub blob-asked : at + length (item_of k (row_of k present v bs)) ≤ length d → at + length (item_of blob (cond present (bytes bs) null)) ≤ length d
    unfolding row_of value_of item_of
    blob-asked m = rw e at m

    pub blob-found : {d' : List ℕ} → d' ≡ over d at (item_of blob (cond present (bytes bs) null)) → d' ≡ over d at (item_of k (row_of k present v bs))
    unfolding row_of value_of item_of
    blob-found h = rw e h

-- ---- the row as it reaches a callee
module _ (k : Kind) (present : Bool) (v : ℤ) (bs d : List ℕ) (at : ℕ) (f : SFits w64 v) where
  same_row : row_of k present (to_z w64 (of_z w64 v)) bs ≡ row_of k present v bs
  same_row = ap (λ (z : ℤ). row_of k present z bs) (to_z-of_z f)

  pub row-asked : fits k (row_of k present v bs) ≡ true → (end : ℕ) → end ≡ at + length (item_of k (row_of k present v bs)) → end ≤ length d
      → (fits k (row_of k present (to_z w64 (of_z w64 v)) bs) ≡ true) × (at + length (item_of k (row_of k present (to_z w64 (of_z w64 v)) bs)) ≤ length d)
  row-asked h end e m = rw same_row (h, omega arith)

  pub row_put : {d' : List ℕ} → d' ≡ over d at (item_of k (row_of k present (to_z w64 (of_z w64 v)) bs))
      → d' ≡ over d at (item_of k (row_of k present v bs))
  row_put h = rw same_row at h
