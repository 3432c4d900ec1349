-- One item more, written behind n items that are held: no field of it is wrong and it reads back as the row; those before it read as they did. For all
-- memory. Assumes nothing.
use Prim.Native.Nat.{ℕ, zero, suc, ◌+◌, ◌-◌, ◌*◌, ◌≤◌, ◌<◌}
use native.Mathlib.Omega.{arith}
use mathlib.Core.Bool.{Bool, true, false, cond, not, ◌&&◌, ◌||◌}
use mathlib.Core.List.{List, ◌++◌, append_assoc}
use mathlib.Core.Path.{◌≡◌, refl, sym, ap, subst, ◌∙◌}
use lib.Dec.{ltb, eqb}
use lib.ListN.{length, take, drop, get_or, set, replicate, length-drop, take-append-drop}
use lib.Seq.{take_at, drop_at, take-append-le, drop-append-le, length-take-le, get_or-set_same, get_or-set_other}
use borrow.Author.Tests.{le-ltb, ltb-false, eqb-true, eq-eqb, ne_eqb, not-false}
use Rattle.area.specs.Area.{over}
use Rattle.encode.specs.declared.Primitive.{Primitive}
use Rattle.encode.specs.declared.Kind.{Kind}
use Rattle.encode.specs.declared.Kind.TheVariants.{Fixed, Char, Blob}
use Rattle.encode.specs.Kinds.{width_of, encoded, decoded}
use Rattle.encode.proofs.Bools.{clash, neither, and_then}
use Rattle.encode.proofs.RoundTrip.{round_trip, item-length}
use Rattle.plain.specs.Rows.{Row, null, int, bytes, int_in, bytes_in, fits}
use Rattle.plain.specs.Plain.{item_of, fixed_at}
use Rattle.plain.proofs.Each.{char-short}
use Rattle.plain.proofs.Items.{item_room}
use Rattle.nullable.specs.Nullable.{presence}
use Rattle.lookup.specs.Held.{Held, held, item_end, item_start, held_row, field_wrong}
use Rattle.slots.specs.Slots.{ends_with, lens_with}
use Rattle.needs.specs.Needs.{bytes_wrong}
use Rattle.append.specs.Asking.{Stores}

-- ---- an area that something was laid over
module _ {A : Type 0} (d : List A) (at : ℕ) (vs : List A) (room : at + length vs ≤ length d) where
  before-length : length (take at d) ≡ at
  before-length = length-take-le at d (omega arith)

  -- from the place on it holds that
  from_place : drop at (over d at vs) ≡ vs ++ drop (at + length vs) d
  unfolding over
  from_place =
      let rest : List A = drop (at + length vs) d in
      ap (drop at) (append_assoc (take at d) vs rest) ∙ drop_at (take at d) (vs ++ rest) at before-length

  -- what lies before the place stays
  module _ (i n : ℕ) (h : i + n ≤ at) where
    in-front : (ys : List A) → take n (drop i (take at d ++ ys)) ≡ take n (drop i (take at d))
    in-front ys =
        let l = before-length in
        let m = length-drop i (take at d) in
        ap (take n) (drop-append-le i (take at d) ys (omega arith)) ∙ take-append-le n (drop i (take at d)) ys (omega arith)

    part-before : take n (drop i (over d at vs)) ≡ take n (drop i d)
    unfolding over
    part-before =
        let rest : List A = drop (at + length vs) d in
        ap (λ (l : List A). take n (drop i l)) (append_assoc (take at d) vs rest)
        ∙ in-front (vs ++ rest)
        ∙ sym (in-front (drop at d))
        ∙ ap (λ (l : List A). take n (drop i l)) (take-append-drop at d)

-- ---- the item is written behind n others, which take so many bytes
abbrev pub written : Kind → ℕ → ℕ → Row → Held → Held
written k n len row h =
    held
    (over h.items len (item_of k row))
    (ends_with k n (len + length (item_of k row)) h.ends)
    (lens_with k n (length (bytes_in row)) h.lens)

-- it is written, or not
abbrev pub held_next : Bool → Kind → ℕ → ℕ → Row → Held → Held
held_next item k n len row h =
    held
    (cond item (over h.items len (item_of k row)) h.items)
    (cond item (ends_with k n (len + length (item_of k row)) h.ends) h.ends)
    (cond item (lens_with k n (length (bytes_in row)) h.lens) h.lens)

-- those bytes are the need of the n items, the row fits, and its slots are there; the bytes of a blob's items end where its own start
pub record Behind (k : Kind) (n len : ℕ) (row : Row) (h : Held) : Type 0 where
  pub need : bytes_wrong k n len ≡ false
  pub fit : fits k row ≡ true
  pub items : len + length (item_of k row) ≤ length h.items
  pub ends : (text : Bool) → k ≡ Blob text → n < length h.ends
  pub lens : (w : ℕ) → k ≡ Char w → n < length h.lens
  pub start : (text : Bool) → k ≡ Blob text → item_start h.ends n ≡ len

-- a blob starts where the last end of all is; with no items that is 0
start-found : (text : Bool) (n len : ℕ) (h : Held) → bytes_wrong (Blob text) n len ≡ false
    → ((i : ℕ) → suc i ≡ n → field_wrong (Blob text) n len h i ≡ false) → item_start h.ends n ≡ len
unfolding bytes_wrong item_start field_wrong
start-found text zero len h b w = sym (eqb-true len 0 (not-false _ b))
start-found text (suc i) len h b w =
    let end : ℕ = item_end h.ends i in
    let a = neither (ltb end (item_start h.ends i) || ltb len end) (eqb (suc i) (suc i) && not (eqb end len)) (w i refl) in
    eqb-true end len (not-false _ (and_then {x = true} _ (sym (eq-eqb (suc i) (suc i) refl)) refl ∙ a.1))

pub behind : {f : Bool} {is es fs ls : List ℕ} (k : Kind) (n len : ℕ) (row : Row) → Stores k f n len row (length (item_of k row)) is es fs ls
    → bytes_wrong k n len ≡ false → ((i : ℕ) → suc i ≡ n → field_wrong k n len (held is es ls) i ≡ false) → Behind k n len row (held is es ls)
behind {f} {is} {es} {fs} {ls} k n len row s b w = record {
  need = b;
  fit = s.taken;
  items = s.items;
  ends = s.ends;
  lens = s.lens;
  start = λ text q. go text q b w;
}
  where
    go : (text : Bool) → k ≡ Blob text → bytes_wrong k n len ≡ false → ((i : ℕ) → suc i ≡ n → field_wrong k n len (held is es ls) i ≡ false)
        → item_start es n ≡ len
    go text q b w =
        start-found text n len (held is es ls) (rw q at b) (λ i z. subst (λ (j : Kind). field_wrong j n len (held is es ls) i ≡ false) q (w i z))

fixed-bytes : (p : Primitive) (n len : ℕ) → bytes_wrong (Fixed p) n len ≡ false → len ≡ n * width_of p
unfolding bytes_wrong
fixed-bytes p n len h = eqb-true len (n * width_of p) (not-false _ h)

char-bytes : (w n len : ℕ) → bytes_wrong (Char w) n len ≡ false → len ≡ n * w
unfolding bytes_wrong
char-bytes w n len h = eqb-true len (n * w) (not-false _ h)

-- a slot set behind item i
slot_kept : (l : List ℕ) (n v i : ℕ) → i < n → get_or (set l n v) i 0 ≡ get_or l i 0
slot_kept l n v i h = get_or-set_other l n i v 0 (λ (q : i ≡ n). omega (arith, q))

start-kept : (l : List ℕ) (n v i : ℕ) → i ≤ n → item_start (set l n v) i ≡ item_start l i
unfolding item_start
start-kept l n v zero h = refl
start-kept l n v (suc i) h = slot_kept l n v i h

-- ---- its fields
last-right : (start end len n : ℕ) → start ≤ end → end ≡ len → (ltb end start || ltb len end || eqb (suc n) (n + 1) && not (eqb end len)) ≡ false
last-right start end len n a b = rw (le-ltb end start a, le-ltb len end (omega arith), eq-eqb end len b, eq-eqb (suc n) (n + 1) (omega arith))

pub new-field : (k : Kind) (n len : ℕ) (row : Row) (h : Held) → Behind k n len row h
    → field_wrong k (n + 1) (len + length (item_of k row)) (written k n len row h) n ≡ false
unfolding field_wrong ends_with lens_with
new-field (Fixed p) n len row h g = refl
new-field (Char w) n len row h g =
    rw (get_or-set_same h.lens n (length (bytes_in row)) 0 (g.lens w refl)) (le-ltb w (length (bytes_in row)) (char-short w row g.fit))
new-field (Blob text) n len row h g =
    let end : ℕ = len + length (item_of (Blob text) row) in
    let s : item_start (set h.ends n end) n ≡ len = start-kept h.ends n end n (omega arith) ∙ g.start text refl in
    rw (get_or-set_same h.ends n end 0 (g.ends text refl), s) (last-right len end end n (omega arith) refl)

-- ---- it reads back as the row
int-back : (p : Primitive) (row : Row) → presence row ≡ 1 → fits (Fixed p) row ≡ true → int (decoded p (encoded p (int_in row))) ≡ row
unfolding presence fits int_in
int-back p null s f = absurd (omega arith)
int-back p (int v) s f = ap int (round_trip p v f)
int-back p (bytes bs) s f = clash (sym f)

char-back : (w : ℕ) (row : Row) → presence row ≡ 1 → fits (Char w) row ≡ true → bytes (bytes_in row) ≡ row
unfolding presence fits bytes_in
char-back w null s f = absurd (omega arith)
char-back w (int v) s f = clash (sym f)
char-back w (bytes bs) s f = refl

blob-back : (text : Bool) (row : Row) → presence row ≡ 1 → fits (Blob text) row ≡ true → bytes (bytes_in row) ≡ row
unfolding presence fits bytes_in
blob-back text null s f = absurd (omega arith)
blob-back text (int v) s f = clash (sym f)
blob-back text (bytes bs) s f = refl

pub new_row : (k : Kind) (n len : ℕ) (row : Row) (h : Held) → Behind k n len row h → presence row ≡ 1 → held_row k (written k n len row h) n ≡ row
unfolding held_row fixed_at item_of ends_with lens_with
new_row (Fixed p) n len row h g s =
    let x : List ℕ = encoded p (int_in row) in
    let t : take (width_of p) (drop (n * width_of p) (over h.items len x)) ≡ x =
    ap (λ (i : ℕ). take (width_of p) (drop i (over h.items len x))) (sym (fixed-bytes p n len g.need))
    ∙ ap (take (width_of p)) (from_place h.items len x g.items)
    ∙ take_at x _ (width_of p) (item-length p (int_in row)) in
    ap (λ (l : List ℕ). int (decoded p l)) t ∙ int-back p row s g.fit
new_row (Char w) n len row h g s =
    let bs : List ℕ = bytes_in row in
    let x : List ℕ = bs ++ replicate (w - length bs) 0 in
    let rest : List ℕ = drop (len + length x) h.items in
    let t : take (length bs) (drop (n * w) (over h.items len x)) ≡ bs =
    ap (λ (i : ℕ). take (length bs) (drop i (over h.items len x))) (sym (char-bytes w n len g.need))
    ∙ ap (take (length bs)) (from_place h.items len x g.items ∙ append_assoc bs (replicate (w - length bs) 0) rest)
    ∙ take_at bs _ (length bs) refl in
    rw (get_or-set_same h.lens n (length bs) 0 (g.lens w refl), t) (char-back w row s g.fit)
new_row (Blob text) n len row h g s =
    let bs : List ℕ = bytes_in row in
    let end : ℕ = len + length bs in
    let m : end - len ≡ length bs = omega arith in
    let b : item_start (set h.ends n end) n ≡ len = start-kept h.ends n end n (omega arith) ∙ g.start text refl in
    let t : take (end - len) (drop len (over h.items len bs)) ≡ bs =
    ap (λ (i : ℕ). take i (drop len (over h.items len bs))) m
    ∙ ap (take (length bs)) (from_place h.items len bs g.items)
    ∙ take_at bs _ (length bs) refl in
    rw (get_or-set_same h.ends n end 0 (g.ends text refl), b, t) (blob-back text row s g.fit)

-- ---- those before it
length-right : (w n len : ℕ) (h : Held) (i : ℕ) → field_wrong (Char w) n len h i ≡ false → get_or h.lens i 0 ≤ w
unfolding field_wrong
length-right w n len h i g = ltb-false w (get_or h.lens i 0) g

-- a blob's ends that aren't wrong
record Ends (start end len : ℕ) : Type 0 where
  rise : start ≤ end
  pass : end ≤ len

ends-right : (n len : ℕ) (h : Held) (text : Bool) (i : ℕ) → field_wrong (Blob text) n len h i ≡ false → Ends (item_start h.ends i) (item_end h.ends i) len
unfolding field_wrong
ends-right n len h text i w =
    let end : ℕ = item_end h.ends i in
    let start : ℕ = item_start h.ends i in
    let a = neither (ltb end start || ltb len end) (eqb (suc i) n && not (eqb end len)) w in
    let b = neither (ltb end start) (ltb len end) a.0 in
    record { rise = ltb-false end start b.0; pass = ltb-false len end b.1 }

early-right : (start end len n i : ℕ) → i < n → start ≤ end → end ≤ len → (ltb end start || ltb len end || eqb (suc i) (n + 1) && not (eqb end len)) ≡ false
early-right start end len n i l a b = rw (le-ltb end start a, le-ltb len end b, ne_eqb (suc i) (n + 1) (λ (q : suc i ≡ n + 1). omega (arith, q)))

module _ (n len : ℕ) (row : Row) (h : Held) (i : ℕ) (l : i < n) where
  pub old-field : (k : Kind) → field_wrong k n len h i ≡ false → field_wrong k (n + 1) (len + length (item_of k row)) (written k n len row h) i ≡ false
  unfolding field_wrong ends_with lens_with
  old-field (Fixed p) w = refl
  old-field (Char m) w = rw (slot_kept h.lens n (length (bytes_in row)) i l) w
  old-field (Blob text) w =
      let end : ℕ = len + length (item_of (Blob text) row) in
      let e = ends-right n len h text i w in
      rw (slot_kept h.ends n end i l, start-kept h.ends n end i (omega arith))
      (early-right (item_start h.ends i) (item_end h.ends i) end n i l e.rise (let p = e.pass in omega arith))

  pub old_row : (k : Kind) → Behind k n len row h → field_wrong k n len h i ≡ false → held_row k (written k n len row h) i ≡ held_row k h i
  unfolding held_row fixed_at ends_with lens_with
  old_row (Fixed p) g w =
      let b : len ≡ n * width_of p = fixed-bytes p n len g.need in
      ap (λ (x : List ℕ). int (decoded p x))
      (part-before h.items len (item_of (Fixed p) row) g.items (i * width_of p) (width_of p) (item_room i n (width_of p) len l (omega arith)))
  old_row (Char m) g w =
      let b : len ≡ n * m = char-bytes m n len g.need in
      let s = length-right m n len h i w in
      let q = item_room i n m len l (omega arith) in
      rw (slot_kept h.lens n (length (bytes_in row)) i l)
      (ap bytes (part-before h.items len (item_of (Char m) row) g.items (i * m) (get_or h.lens i 0) (omega arith)))
  old_row (Blob text) g w =
      let end : ℕ = len + length (item_of (Blob text) row) in
      let s : ℕ = item_start h.ends i in
      let t : ℕ = item_end h.ends i in
      let e = ends-right n len h text i w in
      rw (slot_kept h.ends n end i l, start-kept h.ends n end i (omega arith))
      (ap bytes (part-before h.items len (item_of (Blob text) row) g.items s (t - s) (let p = e.pass in let q = e.rise in omega arith)))
