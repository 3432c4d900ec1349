-- Stored items that areas hold: each comes back as it was given, no field of one is wrong, and the lookup finds a row's place among them.
-- Assumes nothing.
use Prim.Native.Nat.{ℕ, zero, suc, ◌+◌, ◌-◌, ◌*◌, ◌≤◌, ◌<◌}
use native.Mathlib.Nat.{add-zero, zero-add}
use native.Mathlib.Numerals.{add-one}
use native.Mathlib.Omega.{arith}
use mathlib.Core.Bool.{Bool, true, false, cond, not, ◌&&◌, ◌||◌}
use mathlib.Core.List.{List, [], ◌∷◌, ◌++◌, map, append_assoc, append-nil, map-append}
use mathlib.Core.Path.{◌≡◌, refl, sym, ap, subst, ◌∙◌}
use lib.Dec.{ltb, eqb}
use lib.ListN.{length, take, drop, get_or, replicate, length-append, length-map, take-append-drop}
use lib.Seq.{take_at, drop_at, get_or_at, get_or-take}
use borrow.Author.Tests.{le-ltb, eqb-true, eq-eqb}
use Rattle.encode.specs.Kinds.{width_of, encoded, decoded}
use Rattle.encode.specs.declared.Primitive.{Primitive}
use Rattle.encode.specs.declared.Kind.{Kind}
use Rattle.encode.specs.declared.Kind.TheVariants.{Fixed, Char, Blob}
use Rattle.encode.proofs.RoundTrip.{round_trip, item-length}
use Rattle.plain.specs.Each.{Each}
use Rattle.plain.specs.Rows.{Row, null, int, bytes, int_in, bytes_in, same, fits}
use Rattle.plain.specs.Plain.{joined, places, item_of, ends_from, fixed_at}
use Rattle.plain.proofs.Each.{char-short}
use Rattle.nullable.specs.Nullable.{presence}
use Rattle.dict.specs.Dictionary.{index_of}
use Rattle.std.specs.Prelude.{Some}
use Rattle.lookup.specs.Held.{Held, item_start, held_row, field_wrong, look_from, look_up}
use Rattle.building_laws.proofs.Lists.{each_first, each-second, length-snoc, joined-append, length-joined-snoc}
use Rattle.building_laws.proofs.Same.{never}
use Rattle.building_laws.proofs.Measures.{fixed-items, char-items}
use Rattle.building_laws.proofs.AreasOfRows.{EndsHeld, LensHeld}

-- what is held of some items
pub record Stored (k : Kind) (s : List Row) (h : Held) : Type 0 where
  pub items : take (length (joined (item_of k) s)) h.items ≡ joined (item_of k) s
  pub ends : EndsHeld k s h.ends
  pub lens : LensHeld k s h.lens
  pub fit : Each (λ x. fits k x ≡ true) s

-- ---- an item among others
module _ {A : Type 0} where
  -- so many before it, and it too
  take-with : (xs : List A) (x : A) (ys : List A) → take (suc (length xs)) (xs ++ (x ∷ ys)) ≡ xs ++ (x ∷ [])
  take-with [] x ys = refl
  take-with (y ∷ xs) x ys = ap (λ (l : List A). y ∷ l) (take-with xs x ys)

  before-one : (xs : List A) (x : A) (ys : List A) → length xs < length (xs ++ (x ∷ ys))
  before-one xs x ys = omega (arith, length-append xs (x ∷ ys))

-- the bytes from an item on begin with it
items-from : (f : Row → List ℕ) (xs : List Row) (x : Row) (ys : List Row) (l : List ℕ)
    → take (length (joined f (xs ++ (x ∷ ys)))) l ≡ joined f (xs ++ (x ∷ ys))
    → drop (length (joined f xs)) l ≡ f x ++ (joined f ys ++ drop (length (joined f (xs ++ (x ∷ ys)))) l)
unfolding joined
items-from f xs x ys l q =
    let n : ℕ = length (joined f (xs ++ (x ∷ ys))) in
    let rest : List ℕ = drop n l in
    let w : l ≡ joined f xs ++ (f x ++ (joined f ys ++ rest)) =
    sym (take-append-drop n l)
    ∙ ap (λ (m : List ℕ). m ++ rest) (q ∙ joined-append f xs (x ∷ ys))
    ∙ append_assoc (joined f xs) (f x ++ joined f ys) rest
    ∙ ap (λ (m : List ℕ). joined f xs ++ m) (append_assoc (f x) (joined f ys) rest) in
    ap (drop (length (joined f xs))) w ∙ drop_at (joined f xs) (f x ++ (joined f ys ++ rest)) (length (joined f xs)) refl

-- a slot of some that are held
slot_at : (vs : List ℕ) (l : List ℕ) (n i : ℕ) → take n l ≡ vs → i < n → get_or l i 0 ≡ get_or vs i 0
slot_at vs l n i q h = sym (get_or-take n l i 0 h) ∙ ap (λ (m : List ℕ). get_or m i 0) q

-- the end of an item, by the bytes up to it
ends_at : (f : Row → List ℕ) (at : ℕ) (s : List Row) (i : ℕ) → i < length s → get_or (ends_from at (map f s)) i 0 ≡ at + length (joined f (take (suc i) s))
unfolding ends_from joined
ends_at f at [] i h = absurd (omega arith)
ends_at f at (y ∷ s) zero h = let a = length-append (f y) [] in omega arith
ends_at f at (y ∷ s) (suc i) h =
    let a = length-append (f y) (joined f (take (suc i) s)) in
    let b = ends_at f (at + length (f y)) s i (omega arith) in
    omega arith

module _ (f : Row → List ℕ) (l : List ℕ) (xs : List Row) (x : Row) (ys : List Row)
    (q : take (length (xs ++ (x ∷ ys))) l ≡ ends_from 0 (map f (xs ++ (x ∷ ys)))) where
  end_of : get_or l (length xs) 0 ≡ length (joined f xs) + length (f x)
  end_of =
      let s : List Row = xs ++ (x ∷ ys) in
      slot_at (ends_from 0 (map f s)) l (length s) (length xs) q (before-one xs x ys)
      ∙ ends_at f 0 s (length xs) (before-one xs x ys)
      ∙ zero-add (length (joined f (take (suc (length xs)) s)))
      ∙ ap (λ (m : List Row). length (joined f m)) (take-with xs x ys)
      ∙ length-joined-snoc f xs x

  start-by : (i : ℕ) → i ≡ length xs → item_start l i ≡ length (joined f xs)
  unfolding item_start joined
  start-by zero e = rw (none xs (sym e))
    where
      none : (m : List Row) → length m ≡ 0 → m ≡ []
      none [] d = refl
      none (y ∷ m) d = absurd (omega arith)
  start-by (suc i) e =
      let s : List Row = xs ++ (x ∷ ys) in
      let b = before-one xs x ys in
      slot_at (ends_from 0 (map f s)) l (length s) i q (omega arith)
      ∙ ends_at f 0 s i (omega arith)
      ∙ zero-add (length (joined f (take (suc i) s)))
      ∙ ap (λ (n : ℕ). length (joined f (take n s))) e
      ∙ ap (λ (m : List Row). length (joined f m)) (take_at xs (x ∷ ys) (length xs) refl)

  start_of : item_start l (length xs) ≡ length (joined f xs)
  start_of = start-by (length xs) refl

len_of : (l : List ℕ) (xs : List Row) (x : Row) (ys : List Row)
    → take (length (xs ++ (x ∷ ys))) l ≡ map (λ y. length (bytes_in y)) (xs ++ (x ∷ ys)) → get_or l (length xs) 0 ≡ length (bytes_in x)
len_of l xs x ys q =
    let f : Row → ℕ = λ y. length (bytes_in y) in
    slot_at (map f (xs ++ (x ∷ ys))) l (length (xs ++ (x ∷ ys))) (length xs) q (before-one xs x ys)
    ∙ ap (λ (m : List ℕ). get_or m (length xs) 0) (map-append f xs (x ∷ ys))
    ∙ get_or_at (map f xs) (f x) (map f ys) 0 (length xs) (length-map xs f)

-- ---- no field of an item is wrong
no-fault : (start end len n i : ℕ) → start ≤ end → end ≤ len → (suc i ≡ n → end ≡ len) → (ltb end start || ltb len end || eqb (suc i) n && not (eqb end len)) ≡ false
no-fault start end len n i a b c = rw (le-ltb end start a, le-ltb len end b) (go (eqb (suc i) n) refl)
  where
    go : (t : Bool) → eqb (suc i) n ≡ t → (t && not (eqb end len)) ≡ false
    go true e = rw (eq-eqb end len (c (eqb-true (suc i) n e)))
    go false e = refl

none_more : (f : Row → List ℕ) (m : List Row) → length m ≡ 0 → length (joined f m) ≡ 0
unfolding joined
none_more f [] d = refl
none_more f (y ∷ m) d = absurd (omega arith)

item-and : (f : Row → List ℕ) (x : Row) (m : List Row) → length (joined f (x ∷ m)) ≡ length (f x) + length (joined f m)
unfolding joined
item-and f x m = length-append (f x) (joined f m)

pub field-right : (k : Kind) (xs : List Row) (x : Row) (ys : List Row) (h : Held) → Stored k (xs ++ (x ∷ ys)) h
    → field_wrong k (length (xs ++ (x ∷ ys))) (length (joined (item_of k) (xs ++ (x ∷ ys)))) h (length xs) ≡ false
unfolding field_wrong
field-right (Fixed p) xs x ys h g = refl
field-right (Char w) xs x ys h g =
    rw (len_of h.lens xs x ys g.lens)
    (le-ltb w (length (bytes_in x)) (char-short w x (each-second (λ y. fits (Char w) y ≡ true) xs (x ∷ ys) g.fit).0))
field-right (Blob text) xs x ys h g =
    let f : Row → List ℕ = item_of (Blob text) in
    let j : length (joined f (xs ++ (x ∷ ys))) ≡ length (joined f xs) + length (joined f (x ∷ ys)) = ap length (joined-append f xs (x ∷ ys)) ∙ length-append (joined f xs) (joined f (x ∷ ys)) in
    let i : length (joined f (x ∷ ys)) ≡ length (f x) + length (joined f ys) = item-and f x ys in
    rw (end_of f h.ends xs x ys g.ends, start_of f h.ends xs x ys g.ends)
    (no-fault (length (joined f xs)) (length (joined f xs) + length (f x)) (length (joined f (xs ++ (x ∷ ys)))) (length (xs ++ (x ∷ ys))) (length xs) (omega arith) (omega arith)
    (λ q. let z = none_more f ys (let a = length-append xs (x ∷ ys) in omega arith) in omega arith))

-- ---- an item comes back as it was given
int-back : (p : Primitive) (x : Row) → presence x ≡ 1 → fits (Fixed p) x ≡ true → int (decoded p (encoded p (int_in x))) ≡ x
unfolding presence fits int_in
int-back p null s f = absurd (omega arith)
int-back p (int v) s f = ap int (round_trip p v f)
int-back p (bytes bs) s f = never f

char-back : (w : ℕ) (x : Row) → presence x ≡ 1 → fits (Char w) x ≡ true → bytes (bytes_in x) ≡ x
unfolding presence fits bytes_in
char-back w null s f = absurd (omega arith)
char-back w (int v) s f = never f
char-back w (bytes bs) s f = refl

blob-back : (text : Bool) (x : Row) → presence x ≡ 1 → fits (Blob text) x ≡ true → bytes (bytes_in x) ≡ x
unfolding presence fits bytes_in
blob-back text null s f = absurd (omega arith)
blob-back text (int v) s f = never f
blob-back text (bytes bs) s f = refl

pub item_back : (k : Kind) (xs : List Row) (x : Row) (ys : List Row) (h : Held) → Stored k (xs ++ (x ∷ ys)) h → presence x ≡ 1 → held_row k h (length xs) ≡ x
unfolding held_row fixed_at item_of
item_back (Fixed p) xs x ys h g s =
    let l : length (joined (item_of (Fixed p)) xs) ≡ length xs * width_of p = fixed-items p xs in
    let t : take (width_of p) (drop (length xs * width_of p) h.items) ≡ encoded p (int_in x) =
    ap (λ (n : ℕ). take (width_of p) (drop n h.items)) (sym l)
    ∙ ap (take (width_of p)) (items-from (item_of (Fixed p)) xs x ys h.items g.items)
    ∙ take_at (encoded p (int_in x)) _ (width_of p) (item-length p (int_in x)) in
    ap (λ (m : List ℕ). int (decoded p m)) t ∙ int-back p x s (each-second (λ y. fits (Fixed p) y ≡ true) xs (x ∷ ys) g.fit).0
item_back (Char w) xs x ys h g s =
    let f : Row → List ℕ = item_of (Char w) in
    let l : length (joined f xs) ≡ length xs * w = char-items w xs (each_first (λ y. fits (Char w) y ≡ true) xs (x ∷ ys) g.fit) in
    let tail : List ℕ = joined f ys ++ drop (length (joined f (xs ++ (x ∷ ys)))) h.items in
    let t : take (length (bytes_in x)) (drop (length xs * w) h.items) ≡ bytes_in x =
    ap (λ (n : ℕ). take (length (bytes_in x)) (drop n h.items)) (sym l)
    ∙ ap (take (length (bytes_in x))) (items-from f xs x ys h.items g.items ∙ append_assoc (bytes_in x) (replicate (w - length (bytes_in x)) 0) tail)
    ∙ take_at (bytes_in x) _ (length (bytes_in x)) refl in
    rw (len_of h.lens xs x ys g.lens, t) (char-back w x s (each-second (λ y. fits (Char w) y ≡ true) xs (x ∷ ys) g.fit).0)
item_back (Blob text) xs x ys h g s =
    let f : Row → List ℕ = item_of (Blob text) in
    let a : ℕ = length (joined f xs) in
    let m : a + length (bytes_in x) - a ≡ length (bytes_in x) = omega arith in
    let t : take (a + length (bytes_in x) - a) (drop a h.items) ≡ bytes_in x =
    ap (λ (n : ℕ). take n (drop a h.items)) m
    ∙ ap (take (length (bytes_in x))) (items-from f xs x ys h.items g.items)
    ∙ take_at (bytes_in x) _ (length (bytes_in x)) refl in
    rw (end_of f h.ends xs x ys g.ends, start_of f h.ends xs x ys g.ends, t) (blob-back text x s (each-second (λ y. fits (Blob text) y ≡ true) xs (x ∷ ys) g.fit).0)

-- ---- the lookup
module _ (k : Kind) (h : Held) (row : Row) where
  look-from : (xs ys : List Row) → Stored k (xs ++ ys) h → Each (λ x. presence x ≡ 1) ys
      → look_from k (length (xs ++ ys)) (length (joined (item_of k) (xs ++ ys))) h row (places (length ys) (length xs)) ≡ Some (length xs + index_of row ys)
  unfolding look_from places index_of
  look-from xs [] g p = rw (append-nil, add-zero)
  look-from xs (y ∷ ys) g p =
      rw (field-right k xs y ys h g, item_back k xs y ys h g p.0)
      (go (same row y)
      (rw (append_assoc xs (y ∷ []) ys, length-snoc xs y, add-one) at
      (look-from (xs ++ (y ∷ [])) ys (subst (λ (l : List Row). Stored k l h) (sym (append_assoc xs (y ∷ []) ys)) g) p.1)))
    where
      s : List Row
      s = xs ++ (y ∷ ys)

      go : (t : Bool)
          → look_from k (length s) (length (joined (item_of k) s)) h row (places (length ys) (suc (length xs))) ≡ Some (suc (length xs) + index_of row ys)
          → cond t (Some (length xs)) (look_from k (length s) (length (joined (item_of k) s)) h row (places (length ys) (suc (length xs))))
          ≡ Some (length xs + cond t 0 (suc (index_of row ys)))
      go true ih = rw add-zero
      go false ih = let m : suc (length xs) + index_of row ys ≡ length xs + suc (index_of row ys) = omega arith in ih ∙ ap Some m

  pub look_up_lem : (s : List Row) → Stored k s h → Each (λ x. presence x ≡ 1) s → look_up k (length s) (length (joined (item_of k) s)) h row ≡ Some (index_of row s)
  unfolding look_up
  look_up_lem s g p = rw zero-add at (look-from [] s g p)
