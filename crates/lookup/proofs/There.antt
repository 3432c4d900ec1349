-- What the code asks of the lent areas and what it answers, for each kind that a match found; that an item whose fields are good is there; and
-- what a char item's length says of it. Assumes nothing.
use Prim.Native.Nat.{ℕ, suc, ◌+◌, ◌-◌, ◌*◌, ◌≤◌, ◌<◌}
use native.Mathlib.Omega.{arith}
use mathlib.Core.Path.{◌≡◌, refl, sym, ap, subst, ◌∙◌}
use mathlib.Core.Bool.{Bool, true, false, cond, not, ◌&&◌, ◌||◌}
use mathlib.Core.List.{List, []}
use borrow.Author.Tests.{ltb-true, ltb-false, le-ltb}
use lib.Dec.{ltb, eqb}
use lib.IntN.{ℤ}
use lib.ListN.{length, take, drop, get_or}
use Rattle.encode.specs.declared.Kind.{Kind}
use Rattle.encode.specs.declared.Kind.TheVariants.{Fixed, Char, Blob}
use Rattle.encode.specs.declared.Primitive.{Primitive}
use Rattle.encode.specs.Kinds.{width_of, blob}
use Rattle.limits.specs.Limits.{MOST_ITEMS}
use Rattle.plain.specs.Rows.{bytes, value_of, same_int, same_bytes, same}
use Rattle.plain.specs.Plain.{fixed_at}
use Rattle.plain.proofs.Items.{item_room}
use Rattle.std.specs.Prelude.{Option, Some}
use Rattle.lookup.specs.Held.{Held, held, item_end, item_start, held_row, field_wrong, look_up}
use Rattle.lookup.specs.Asking.{FieldsThere, BytesThere, ItemThere}
use Rattle.lookup.specs.First.{first_value}
use Rattle.encode.proofs.Bools.{neither}
use Rattle.lookup.proofs.Alike.{length-other}
use Rattle.lookup.proofs.Passed.{up-alike, up_first}

-- ---- an item whose fields are good is there
pub blob-there : (n len : ℕ) (h : Held) (i : ℕ) → i < n → n ≤ length h.ends → len ≤ length h.items
    → field_wrong blob n len h i ≡ false → ItemThere blob h i
unfolding ItemThere field_wrong
blob-there n len h i l f b w =
    let falls = ltb (item_end h.ends i) (item_start h.ends i) in
    let passes = ltb len (item_end h.ends i) in
    let a = neither (falls || passes) (eqb (suc i) n && not (eqb (item_end h.ends i) len)) w in
    let c = neither falls passes a.0 in
    let e = ltb-false (item_end h.ends i) (item_start h.ends i) c.0 in
    let d = ltb-false len (item_end h.ends i) c.1 in
    (omega arith, e, omega arith)

pub item-there : (k : Kind) (n len : ℕ) (h : Held) (i : ℕ) → i < n → n ≤ MOST_ITEMS → FieldsThere k n h → BytesThere k n len h
    → field_wrong k n len h i ≡ false → ItemThere k h i
unfolding FieldsThere BytesThere ItemThere field_wrong
item-there (Fixed p) n len h i l m f b w = (omega arith, item_room i n (width_of p) (length h.items) l b)
item-there (Char w) n len h i l m f b g =
    let r = item_room i n w (length h.items) l b in
    let q = ltb-false w (get_or h.lens i 0) g in
    (omega arith, omega arith, omega arith)
item-there (Blob text) n len h i l m f b w = blob-there n len h i l f b w

-- the fields are not in the items
pub fields-apart : (k : Kind) (n : ℕ) (is es ls : List ℕ) → FieldsThere k n (held is es ls) → FieldsThere k n (held [] es ls)
unfolding FieldsThere
fields-apart (Fixed p) n is es ls h = tt
fields-apart (Char w) n is es ls h = h
fields-apart (Blob text) n is es ls h = h

pub wrong-apart : (k : Kind) (n len : ℕ) (is es ls : List ℕ) (i : ℕ) → field_wrong k n len (held [] es ls) i ≡ field_wrong k n len (held is es ls) i
unfolding field_wrong
wrong-apart (Fixed p) n len is es ls i = refl
wrong-apart (Char w) n len is es ls i = refl
wrong-apart (Blob text) n len is es ls i = refl

-- ---- a fixed kind
module _ {k : Kind} (p : Primitive) (e : k ≡ Fixed p) where
  pub fixed-item : (h : Held) (i : ℕ) → ItemThere k h i → (i < MOST_ITEMS) × (i * width_of p + width_of p ≤ length h.items)
  unfolding ItemThere
  fixed-item h i t = subst (λ (j : Kind). ItemThere j h i) e t

  pub fixed-bytes : (n len : ℕ) (h : Held) → BytesThere k n len h → n * width_of p ≤ length h.items
  unfolding BytesThere
  fixed-bytes n len h b = subst (λ (j : Kind). BytesThere j n len h) e b

  pub fixed-wrong : (n len : ℕ) (h : Held) (i : ℕ) → false ≡ field_wrong k n len h i
  unfolding field_wrong
  fixed-wrong n len h i = subst (λ (j : Kind). false ≡ field_wrong j n len h i) (sym e) refl

  pub fixed_same : (h : Held) (i : ℕ) (v : ℤ) (bs : List ℕ) {x : Bool} → x ≡ same_int v (fixed_at p h.items i) → x ≡ same (value_of k v bs) (held_row k h i)
  unfolding same value_of held_row
  fixed_same h i v bs {x} q = subst (λ (j : Kind). x ≡ same (value_of j v bs) (held_row j h i)) (sym e) q

  pub fixed-up : (n len : ℕ) (h : Held) (v : ℤ) (bs : List ℕ) {r : ℕ} → r ≡ first_value p h.items n v → Some r ≡ look_up k n len h (value_of k v bs)
  unfolding value_of
  fixed-up n len h v bs {r} q = subst (λ (j : Kind). Some r ≡ look_up j n len h (value_of j v bs)) (sym e) (ap Some q ∙ up_first p n len h v)

-- ---- char, which has no ends
module _ {k : Kind} (w : ℕ) (e : k ≡ Char w) where
  pub char-item : (is es ls : List ℕ) (i : ℕ) → ItemThere k (held is es ls) i → ItemThere (Char w) (held is [] ls) i
  unfolding ItemThere
  char-item is es ls i t = subst (λ (j : Kind). ItemThere j (held is es ls) i) e t

  pub char-fields : (n : ℕ) (h : Held) → FieldsThere k n h → n ≤ length h.lens
  unfolding FieldsThere
  char-fields n h f = subst (λ (j : Kind). FieldsThere j n h) e f

  pub char-bytes : (n len : ℕ) (h : Held) → BytesThere k n len h → n * w ≤ length h.items
  unfolding BytesThere
  char-bytes n len h b = subst (λ (j : Kind). BytesThere j n len h) e b

  pub char-wrong : (n len : ℕ) (h : Held) (i : ℕ) → ltb w (get_or h.lens i 0) ≡ field_wrong k n len h i
  unfolding field_wrong
  char-wrong n len h i = subst (λ (j : Kind). ltb w (get_or h.lens i 0) ≡ field_wrong j n len h i) (sym e) refl

  module _ (is es ls : List ℕ) (v : ℤ) (bs : List ℕ) where
    pub char-same : (i : ℕ) {x : Bool} → x ≡ same (bytes bs) (held_row (Char w) (held is [] ls) i) → x ≡ same (value_of k v bs) (held_row k (held is es ls) i)
    unfolding value_of held_row
    char-same i {x} q = subst (λ (j : Kind). x ≡ same (value_of j v bs) (held_row j (held is es ls) i)) (sym e) q

    pub char_up : (n len : ℕ) {x : Option ℕ} → x ≡ look_up (Char w) n 0 (held is [] ls) (bytes bs) → x ≡ look_up k n len (held is es ls) (value_of k v bs)
    unfolding value_of field_wrong held_row
    char_up n len {x} q =
        subst (λ (j : Kind). x ≡ look_up j n len (held is es ls) (value_of j v bs)) (sym e)
        (q ∙ up-alike (Char w) (Char w) n 0 len (held is [] ls) (held is es ls) (bytes bs) (λ i. refl) (λ i. refl))

-- where the code asks for an item's length first: r is the length of the bytes that are sought, or no item's if they are longer than the width
pub record ByLength (w : ℕ) (is ls : List ℕ) (n i : ℕ) (bs : List ℕ) (r : ℕ) : Type 0 where
  pub inside : i < n
  pub room : n * w ≤ length is
  pub byte : get_or ls i 0 < 256
  pub asked : r ≡ cond (ltb w (length bs)) 256 (length bs)

module _ {w : ℕ} {is ls : List ℕ} {n i : ℕ} {bs : List ℕ} {r : ℕ} (g : ByLength w is ls n i bs r) where
  module _ (q : get_or ls i 0 ≡ r) where
    as_long : (length bs ≡ get_or ls i 0) × (length bs ≤ w)
    as_long = by (ltb w (length bs)) refl g.asked
      where
        by : (t : Bool) → ltb w (length bs) ≡ t → r ≡ cond t 256 (length bs) → (length bs ≡ get_or ls i 0) × (length bs ≤ w)
        by true e p = absurd (omega (arith, g.byte, q, p))
        by false e p = (sym (q ∙ p), ltb-false w (length bs) e)

    pub alike-room : i * w + length bs ≤ length is
    alike-room = let l = item_room i n w (length is) g.inside g.room in omega (arith, as_long.1)

    pub alike-good : (len : ℕ) → field_wrong (Char w) n len (held is [] ls) i ≡ false
    unfolding field_wrong
    alike-good len = le-ltb w (get_or ls i 0) (omega (arith, as_long.0, as_long.1))

    pub alike_same : {x : Bool} → x ≡ same_bytes bs (take (length bs) (drop (i * w) is)) → x ≡ same (bytes bs) (held_row (Char w) (held is [] ls) i)
    unfolding same held_row
    alike_same e = e ∙ ap (λ (m : ℕ). same_bytes bs (take m (drop (i * w) is))) as_long.0

  module _ (d : get_or ls i 0 ≡ r → ⊥) (h : get_or ls i 0 ≤ w) where
    unlike : (t : Bool) → ltb w (length bs) ≡ t → r ≡ cond t 256 (length bs) → length bs ≡ get_or ls i 0 → ⊥
    unlike true e p q = let l = ltb-true w (length bs) e in omega (arith, q)
    unlike false e p q = d (sym (p ∙ q))

    pub unlike-same : same (bytes bs) (held_row (Char w) (held is [] ls) i) ≡ false
    unfolding same held_row
    unlike-same =
        let l = item_room i n w (length is) g.inside g.room in
        sym (length-other is (i * w) (get_or ls i 0) bs (omega arith) (unlike (ltb w (length bs)) refl g.asked))

-- ---- blob, which has no lengths
-- from the start and the end that the code reads
pub blob-read :
    (is es : List ℕ) (i : ℕ) (bs : List ℕ) {a b : ℕ} → a ≡ item_start es i → b ≡ item_end es i
    → {x : Bool} → x ≡ same_bytes bs (take (b - a) (drop a is)) → x ≡ same (bytes bs) (held_row blob (held is es []) i)
unfolding same held_row
blob-read is es i bs {a} {b} p q h =
    h
    ∙ ap (λ (m : ℕ). same_bytes bs (take (m - a) (drop a is))) q
    ∙ ap (λ (m : ℕ). same_bytes bs (take (item_end es i - m) (drop m is))) p

module _ {k : Kind} {text : Bool} (e : k ≡ Blob text) where
  pub blob-item : (is es ls : List ℕ) (i : ℕ) → ItemThere k (held is es ls) i → ItemThere blob (held is es []) i
  unfolding ItemThere
  blob-item is es ls i t = subst (λ (j : Kind). ItemThere j (held is es ls) i) e t

  pub blob-fields : (n : ℕ) (h : Held) → FieldsThere k n h → n ≤ length h.ends
  unfolding FieldsThere
  blob-fields n h f = subst (λ (j : Kind). FieldsThere j n h) e f

  pub blob-bytes : (n len : ℕ) (h : Held) → BytesThere k n len h → len ≤ length h.items
  unfolding BytesThere
  blob-bytes n len h b = subst (λ (j : Kind). BytesThere j n len h) e b

  pub blob-wrong : (n len : ℕ) (is es ls : List ℕ) (i : ℕ) {x : Bool} → x ≡ field_wrong blob n len (held [] es []) i → x ≡ field_wrong k n len (held is es ls) i
  unfolding field_wrong
  blob-wrong n len is es ls i {x} q = subst (λ (j : Kind). x ≡ field_wrong j n len (held is es ls) i) (sym e) q

  module _ (is es ls : List ℕ) (v : ℤ) (bs : List ℕ) where
    pub blob-same : (i : ℕ) {x : Bool} → x ≡ same (bytes bs) (held_row blob (held is es []) i) → x ≡ same (value_of k v bs) (held_row k (held is es ls) i)
    unfolding value_of held_row
    blob-same i {x} q = subst (λ (j : Kind). x ≡ same (value_of j v bs) (held_row j (held is es ls) i)) (sym e) q

    pub blob-up : (n len : ℕ) {x : Option ℕ} → x ≡ look_up blob n len (held is es []) (bytes bs) → x ≡ look_up k n len (held is es ls) (value_of k v bs)
    unfolding value_of field_wrong held_row
    blob-up n len {x} q =
        subst (λ (j : Kind). x ≡ look_up j n len (held is es ls) (value_of j v bs)) (sym e)
        (q ∙ up-alike blob (Blob text) n len len (held is es []) (held is es ls) (bytes bs) (λ i. refl) (λ i. refl))
