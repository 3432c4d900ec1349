-- Items of a fixed kind as numbers: an item equals a value's item as a number exactly where it has that value, and a value that the kind doesn't take
-- is none of them. Assumes nothing.
use Prim.Native.Nat.{ℕ, zero, suc, ◌+◌, ◌-◌, ◌*◌, ◌/◌, ◌%◌, ◌^◌, ◌≤◌, ◌<◌}
use native.Mathlib.Nat.{mul-one, pow-suc, suc-mul, zero-mul}
use native.Mathlib.Omega.{arith}
use mathlib.Core.Path.{◌≡◌, refl, sym, ap, subst, ◌∙◌}
use mathlib.Core.Bool.{Bool, true, false, not, beq}
use mathlib.Core.List.{List, [], ◌∷◌, reverse, reverse_aux, reverse-reverse}
use borrow.Author.Tests.{lt-ltb, eqb-true, eqb-false, eq-eqb, ne_eqb}
use lib.Dec.{ltb, eqb, lit<}
use lib.IntN.{ℤ}
use lib.ListN.{length, take, drop, get_or, length-drop, length-reverse}
use lib.Seq.{drop-cons, length-take-le}
use lib.Signed.{mag}
use store.Enc.{two_256}
use mir.Syntax.{Width, w64}
use mir.Val.{Fits, of_z, to_z, bytes, hbits}
use mir.Facts.{sfits_to_z, to_z_inj}
use Rattle.encode.specs.Bytes.{Order, low_first, high-first, little, bytes_of, number, number_of, in_eight}
use Rattle.encode.specs.Kinds.{Reading, truth, signed, laid_as, shape_of, layout_of, width_of, true_or_false, number_as, value_as, takes_as}
use Rattle.encode.specs.Kinds.{encoded, decoded, takes}
use Rattle.encode.specs.declared.Primitive.{Primitive}
use Rattle.encode.specs.declared.Primitive.TheVariants.{Bool as Boolean}
use Rattle.encode.specs.declared.Shape.{Shape}
use Rattle.encode.specs.declared.Shape.TheVariants.{Bool as BoolShape, Low2, Low4, Low8, High4, High8}
use Rattle.encode.proofs.RoundTrip.{round_trip, item-length, item-whole}
use Rattle.encode.proofs.Shapes.{wide_as, encoded-shaped}
use Rattle.plain.specs.Rows.{same_int}
use Rattle.plain.specs.Plain.{places, fixed_at}
use Rattle.plain.proofs.Items.{item_room, take-item}
use Rattle.lookup.specs.First.{first_at, first_value, first_number}
use Rattle.encode.proofs.Bools.{clash}
use Rattle.lookup.proofs.Alike.{int_same, int-other}
use Rattle.lookup.proofs.Passed.{Passed, passed_start, passed-stop, passed-step, passed-end}
use Rattle.lookup.proofs.Passed.{first-here, first-later, first_alike, first-none}

-- ---- lists of bytes
abbrev Bytes : List ℕ → Type 0
Bytes [] = Unit
Bytes (b ∷ bs) = (b < 256) × Bytes bs

all-bytes : (s : List ℕ) → ((j : ℕ) → get_or s j 0 < 256) → Bytes s
all-bytes [] h = tt
all-bytes (b ∷ s) h = (h 0, all-bytes s (λ j. h (suc j)))

bytes_drop : (n : ℕ) (s : List ℕ) → Bytes s → Bytes (drop n s)
bytes_drop zero s h = h
bytes_drop (suc n) [] h = tt
bytes_drop (suc n) (b ∷ s) h = bytes_drop n s h.1

bytes_take : (n : ℕ) (s : List ℕ) → Bytes s → Bytes (take n s)
bytes_take zero s h = tt
bytes_take (suc n) [] h = tt
bytes_take (suc n) (b ∷ s) h = (h.0, bytes_take n s h.1)

bytes_back : (s t : List ℕ) → Bytes s → Bytes t → Bytes (reverse_aux s t)
bytes_back [] t h g = g
bytes_back (b ∷ s) t h g = bytes_back s (b ∷ t) h.1 (h.0, g)

bytes-little : (w n : ℕ) → Bytes (little w n)
bytes-little zero n = tt
bytes-little (suc w) n = (omega arith, bytes-little w (n / 256))

bytes-of : (o : Order) (w n : ℕ) → Bytes (bytes_of o w n)
bytes-of low_first w n = bytes-little w n
bytes-of high-first w n = bytes_back (little w n) [] (bytes-little w n) tt

-- ---- their numbers, in either order
below : (s : List ℕ) → Bytes s → number s < 256 ^ length s
below [] h = lit< tt
below (b ∷ s) h =
    let q : number s < 256 ^ length s = below s h.1 in
    let e : 256 ^ suc (length s) ≡ 256 ^ length s * 256 = pow-suc 256 (length s) in
    rw e (omega (arith, h.0))

alike : (s t : List ℕ) → length s ≡ length t → Bytes s → Bytes t → number s ≡ number t → s ≡ t
alike [] [] l h g e = refl
alike [] (b ∷ t) l h g e = absurd (omega arith)
alike (a ∷ s) [] l h g e = absurd (omega arith)
alike (a ∷ s) (b ∷ t) l h g e =
    let x : a ≡ b = omega (arith, h.0, g.0) in
    let y : number s ≡ number t = omega (arith, h.0, g.0) in
    let n : length s ≡ length t = omega arith in
    ap (λ (c : ℕ). c ∷ s) x ∙ ap (λ (r : List ℕ). b ∷ r) (alike s t n h.1 g.1 y)

alike-in : (o : Order) (s t : List ℕ) → length s ≡ length t → Bytes s → Bytes t → number_of o s ≡ number_of o t → s ≡ t
alike-in low_first s t l h g e = alike s t l h g e
alike-in high-first s t l h g e =
    let r : reverse s ≡ reverse t = alike (reverse s) (reverse t) (length-reverse s ∙ l ∙ sym (length-reverse t)) (bytes_back s [] h tt) (bytes_back t [] g tt) e in
    sym (reverse-reverse s) ∙ ap reverse r ∙ reverse-reverse t

fits_in : (o : Order) (w : Width) (s : List ℕ) → length s ≡ bytes w → Bytes s → Fits w (number_of o s)
fits_in low_first w s l h = record { fits = rw (two_256 w, ← l) (below s h) }
fits_in high-first w s l h = let e : length (reverse s) ≡ bytes w = length-reverse s ∙ l in record { fits = rw (two_256 w, ← e) (below (reverse s) (bytes_back s [] h tt)) }

-- ---- their values
-- every shape but a bool's tells all numbers of its width apart
abbrev Signed : Reading → Type 0
Signed truth = ⊥
Signed signed = Unit

signed-wide : (s : Shape) → 1 < wide_as s → Signed (laid_as s).reading
signed-wide BoolShape h = absurd (omega arith)
signed-wide Low2 h = tt
signed-wide Low4 h = tt
signed-wide Low8 h = tt
signed-wide High4 h = tt
signed-wide High8 h = tt

apart : (r : Reading) → Signed r → (w : Width) (m n : ℕ) → Fits w m → Fits w n → number_as r w m ≡ number_as r w n → m ≡ n
apart truth x w m n f g e = absurd x
apart signed x w m n f g e = to_z_inj f g e

read_taken : (r : Reading) (w : Width) (n : ℕ) → Fits w n → takes_as r w (number_as r w n) ≡ true
read_taken truth w n f = by (ltb 0 n)
  where
    by : (t : Bool) → takes_as truth w (true_or_false t) ≡ true
    by true = refl
    by false = refl
read_taken signed w n f = lt-ltb (mag (to_z w n)) (2 ^ hbits w) (sfits_to_z f).sfits

module _ (p : Primitive) (v : ℤ) (bs : List ℕ) (l : length bs ≡ width_of p) (s : Bytes bs) where
  f : Fits (layout_of p).size (number_of (layout_of p).order bs)
  f = fits_in (layout_of p).order (layout_of p).size bs l s

  untaken : takes p v ≡ false → false ≡ same_int v (decoded p bs)
  untaken h =
      let t : takes p (decoded p bs) ≡ true = read_taken (layout_of p).reading (layout_of p).size (number_of (layout_of p).order bs) f in
      sym (int-other v (decoded p bs) (λ e. clash (sym t ∙ ap (takes p) (sym e) ∙ h)))

  module _ (wide : 1 < width_of p) (t : takes p v ≡ true) where
    item : Bytes (encoded p v)
    item = bytes-of (layout_of p).order (width_of p) (of_z w64 v)

    as_long : length bs ≡ length (encoded p v)
    as_long = l ∙ sym (item-length p v)

    by_value : v ≡ decoded p bs → bs ≡ encoded p v
    by_value e =
        let o = (layout_of p).order in
        let d : decoded p bs ≡ decoded p (encoded p v) = sym (round_trip p v t ∙ e) in
        let g : Fits (layout_of p).size (number_of o (encoded p v)) = fits_in o (layout_of p).size (encoded p v) (item-length p v) item in
        let e : number_of o bs ≡ number_of o (encoded p v) = apart (layout_of p).reading (signed-wide (shape_of p) wide) (layout_of p).size _ _ f g d in
        alike-in o bs (encoded p v) as_long s item e

    word : eqb (number bs) (number (encoded p v)) ≡ same_int v (decoded p bs)
    word = by (eqb (number bs) (number (encoded p v))) refl
      where
        by : (x : Bool) → eqb (number bs) (number (encoded p v)) ≡ x → x ≡ same_int v (decoded p bs)
        by true h =
            let e : bs ≡ encoded p v = alike bs (encoded p v) as_long s item (eqb-true (number bs) (number (encoded p v)) h) in
            sym (int_same (sym (ap (decoded p) e ∙ round_trip p v t)))
        by false h = sym (int-other v (decoded p bs) (λ e. eqb-false (number bs) (number (encoded p v)) h (ap number (by_value e))))

-- ---- the loops over items of w bytes: those passed are not the number, and the next item's place
pub record Seeking (w : ℕ) (items : List ℕ) (n want at i : ℕ) : Type 0 where
  pub passed : Passed (first_at (λ (k : ℕ). eqb (number (take w (drop (k * w) items))) want) n) n i
  pub place : at ≡ i * w

pub seeking-start : (w : ℕ) (items : List ℕ) (n want : ℕ) → Seeking w items n want 0 0
seeking-start w items n want = record {
  passed = passed_start (first_at (λ (k : ℕ). eqb (number (take w (drop (k * w) items))) want) n) n;
  place = sym (zero-mul w);
}

module _ {w : ℕ} {items : List ℕ} {n want at i : ℕ} (g : Seeking w items n want at i) where
  module _ (room : n * w ≤ length items) (h : i < n) where
    pub seeking-item : at + w ≤ length items
    seeking-item = let l = item_room i n w (length items) h room in omega (arith, g.place)

    -- from what the item's function and its number's ensure
    module _ {item : List ℕ} {r : ℕ} (e : item ≡ in_eight (take w (drop at items))) (d : r ≡ number (take w item)) where
      at_place : r ≡ number (take w (drop (i * w) items))
      at_place = d ∙ ap (λ (l : List ℕ). number (take w l)) e ∙ ap number (take-item w at items seeking-item) ∙ ap (λ (a : ℕ). number (take w (drop a items))) g.place

      pub seeking-here : r ≡ want → i ≡ first_number w items n want
      unfolding first_number
      seeking-here q = passed-stop g.passed h (first-here _ n i (eq-eqb (number (take w (drop (i * w) items))) want (sym at_place ∙ q)))

      pub seeking-step : (r ≡ want → ⊥) → Seeking w items n want (at + w) (i + 1)
      seeking-step q =
          let s : suc i * w ≡ i * w + w = suc-mul i w in
          let z : suc i ≡ i + 1 = omega arith in
          record {
            passed = passed-step g.passed h (first-later _ n i (ne_eqb (number (take w (drop (i * w) items))) want (λ x. q (at_place ∙ x))));
            place = rw (← z) (omega (arith, g.place));
          }

  pub seeking-end : n ≤ i → n ≡ first_number w items n want
  unfolding first_number first_at
  seeking-end h = passed-end g.passed h

-- ---- the first of n items
module _ (p : Primitive) (items : List ℕ) (n : ℕ) (v : ℤ) (fit : (j : ℕ) → get_or items j 0 < 256) (room : n * width_of p ≤ length items) where
  module _ (i : ℕ) (h : i < 0 + n) where
    part_length : length (take (width_of p) (drop (i * width_of p) items)) ≡ width_of p
    part_length =
        let l = item_room i n (width_of p) (length items) (omega arith) room in
        let d : length (drop (i * width_of p) items) ≡ length items - i * width_of p = length-drop (i * width_of p) items in
        length-take-le (width_of p) (drop (i * width_of p) items) (omega arith)

    part_bytes : Bytes (take (width_of p) (drop (i * width_of p) items))
    part_bytes = bytes_take (width_of p) (drop (i * width_of p) items) (bytes_drop (i * width_of p) items (all-bytes items fit))

  pub first-untaken : takes p v ≡ false → n ≡ first_value p items n v
  unfolding first_value fixed_at
  first-untaken t = first-none _ n n 0 (λ i a b. sym (untaken p v (take (width_of p) (drop (i * width_of p) items)) (part_length i b) (part_bytes i b) t))

  module _ (t : takes p v ≡ true) where
    first_word : 1 < width_of p → first_number (width_of p) items n (number (encoded p v)) ≡ first_value p items n v
    unfolding first_number first_value fixed_at
    first_word wide = first_alike _ _ n n 0 (λ i a b. word p v (take (width_of p) (drop (i * width_of p) items)) (part_length i b) (part_bytes i b) wide t)

    -- as the code finds it: by the number of the first w of the eight bytes that are passed
    pub word-found :
        (w : ℕ) → width_of p ≡ w → 1 < w → {r want : ℕ} {item : List ℕ} → item ≡ in_eight (encoded p v) → want ≡ number (take w item)
        → r ≡ first_number w items n want → r ≡ first_value p items n v
    word-found w e wide {r} {want} {item} a b c =
        let q : want ≡ number (encoded p v) =
        b
        ∙ ap (λ (l : List ℕ). number (take w l)) a
        ∙ ap (λ (m : ℕ). number (take m (in_eight (encoded p v)))) (sym e)
        ∙ ap number (item-whole p v) in
        c
        ∙ ap (first_number w items n) q
        ∙ ap (λ (m : ℕ). first_number m items n (number (encoded p v))) (sym e)
        ∙ first_word (subst (λ (m : ℕ). 1 < m) (sym e) wide)

-- ---- bool: any nonzero byte is true
nonzero : (b : ℕ) → not (eqb b 0) ≡ ltb 0 b
nonzero zero = refl
nonzero (suc b) = ap not (ne_eqb (suc b) 0 (λ e. omega (arith, e))) ∙ sym (lt-ltb 0 (suc b) (omega arith))

same_truth : (want x : Bool) → beq x want ≡ same_int (true_or_false want) (true_or_false x)
unfolding same_int
same_truth true true = refl
same_truth true false = refl
same_truth false true = refl
same_truth false false = refl

pub bool-test :
    (want : Bool) (items : List ℕ) (i : ℕ) → i < length items
    → beq (not (eqb (get_or items i 0) 0)) want ≡ same_int (true_or_false want) (fixed_at Boolean items i)
unfolding fixed_at
bool-test want items i h =
    let e : take 1 (drop (i * 1) items) ≡ get_or items i 0 ∷ [] = rw (mul-one, drop-cons items i 0 h) in
    let n : number (take 1 (drop (i * 1) items)) ≡ get_or items i 0 = ap number e ∙ omega arith in
    ap (λ (x : Bool). beq x want) (nonzero (get_or items i 0) ∙ ap (ltb 0) (sym n))
    ∙ same_truth want (ltb 0 (number (take 1 (drop (i * 1) items))))

-- what is found depends on the shape alone
abbrev first_as : Shape → List ℕ → ℕ → ℤ → ℕ
first_as s items n v = first_at (λ (i : ℕ). same_int v (value_as (laid_as s) (take (wide_as s) (drop (i * wide_as s) items)))) n (places n 0)

first-shaped : (p q : Primitive) (items : List ℕ) (n : ℕ) (v : ℤ) → shape_of p ≡ shape_of q → first_value p items n v ≡ first_value q items n v
unfolding first_value fixed_at
first-shaped p q items n v e = ap (λ (s : Shape). first_as s items n v) e

module _ (p : Primitive) (q : shape_of p ≡ BoolShape) (items : List ℕ) (n : ℕ) (v : ℤ) (t : takes p v ≡ true) where
  pub bool-found : {item : List ℕ} {r : ℕ} → item ≡ in_eight (encoded p v)
      → r ≡ first_value Boolean items n (true_or_false (not (eqb (get_or item 0 0) 0))) → r ≡ first_value p items n v
  bool-found {item} {r} e c =
      let b : ℕ = of_z w64 v % 256 in
      let i : get_or item 0 0 ≡ b = ap (λ (l : List ℕ). get_or l 0 0) (e ∙ ap in_eight (encoded-shaped p q v)) in
      let w : true_or_false (ltb 0 (b + 256 * 0)) ≡ v =
      round_trip Boolean v (sym (ap (λ (s : Shape). takes_as (laid_as s).reading (laid_as s).size v) q) ∙ t) in
      let z : b + 256 * 0 ≡ b = omega arith in
      let x : true_or_false (not (eqb (get_or item 0 0) 0)) ≡ v = ap true_or_false (nonzero (get_or item 0 0) ∙ ap (ltb 0) (i ∙ sym z)) ∙ w in
      c ∙ ap (first_value Boolean items n) x ∙ sym (first-shaped p Boolean items n v q)
