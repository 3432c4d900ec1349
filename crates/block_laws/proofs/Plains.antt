-- The plain block of rows that fit: no plain rule refuses it, and item i is row i in its stored form. Assumes nothing.
use Prim.Native.Nat.{ℕ, zero, suc, ◌+◌, ◌*◌, ◌-◌, ◌^◌, ◌≤◌, ◌<◌}
use native.Mathlib.Nat.{mul_comm, zero-add, add-zero, mod-eq_of_lt}
use native.Mathlib.Omega.{arith}
use mathlib.Core.Bool.{Bool, true, false, cond}
use mathlib.Core.List.{List, [], ◌∷◌, ◌++◌, map, append-nil}
use mathlib.Core.Path.{◌≡◌, refl, sym, ap, ◌∙◌}
use lib.Dec.{eqb, leb}
use lib.ListN.{length, take, drop, get_or, replicate, length-append, length-map, get_or-map}
use lib.Seq.{take_at, drop-append-add, ext_get_or}
use borrow.Author.Tests.{le-leb}
use Rattle.encode.specs.Bytes.{little, low_first}
use Rattle.encode.specs.Kinds.{shape_of, laid_as, width_of, bytes_as, value_as, decoded, encoded, blob, holds_text}
use Rattle.encode.specs.declared.Primitive.{Primitive}
use Rattle.encode.specs.declared.Shape.{Shape}
use Rattle.encode.specs.declared.Shape.TheVariants.{Bool as BoolShape, Low2, Low4, Low8, High4, High8}
use Rattle.encode.specs.declared.Kind.{Kind}
use Rattle.encode.specs.declared.Kind.TheVariants.{Fixed, Char, Blob}
use Rattle.encode.proofs.Bools.{clash, both}
use Rattle.encode.proofs.RoundTrip.{number-bytes, round_trip}
use Rattle.utf8.specs.Utf8.{is_text}
use Rattle.utf8.proofs.Cutting.{no_text}
use Rattle.plain.specs.Each.{Each}
use Rattle.plain.specs.Rows.{Row, null, int, bytes, int_in, bytes_in, fits}
use Rattle.plain.specs.Plain.{joined, places, item_of, ends_from, plain_of, end_at, start_at, ends_of, rising, last_of, lengths_number, plain_number, before_nul}
use Rattle.plain.specs.Plain.{fixed_at, char_at, blob_at, plain_row}
use Rattle.plain.proofs.Each.{Wide, all-each, length-joined, fixed-wide, char-wide}
use Rattle.plain.proofs.Ends.{length-ends, last-same}
use Rattle.plain.proofs.Numbers.{fixed-length, char-length, all-text}
use Rattle.plain.proofs.TextItems.{text-before-nul, rows-text}
use Rattle.plain.proofs.Places.{length_over, get_d_over}
use Rattle.format.specs.Blocks.{cut, filled}
use Rattle.block_laws.proofs.Lists.{each_at, item-joined}

-- ---- rows that fit a kind
abbrev pub Fits : Kind → Row → Type 0
Fits k r = fits k r ≡ true

-- what a plain block keeps of a row
abbrev pub kept : Kind → Row → Row
kept k r = cut k (filled k r)

-- ---- fixed kinds
default-trip : (s : Shape) → value_as (laid_as s) (bytes_as (laid_as s) (int_in null)) ≡ int_in null
unfolding int_in
default-trip BoolShape = refl
default-trip Low2 = refl
default-trip Low4 = refl
default-trip Low8 = refl
default-trip High4 = refl
default-trip High8 = refl

fixed-trip : (p : Primitive) (r : Row) → Fits (Fixed p) r → decoded p (encoded p (int_in r)) ≡ int_in r
unfolding fits int_in
fixed-trip p null h = default-trip (shape_of p)
fixed-trip p (int v) h = round_trip p v h
fixed-trip p (bytes bs) h = let z : ◌≡◌ {A = ℕ} 0 1 = cc in absurd (omega arith)

-- ---- chars
only-nuls : (m : ℕ) → before_nul (replicate m 0) ≡ []
unfolding before_nul
only-nuls zero = refl
only-nuls (suc m) = refl

-- NULs behind it don't lengthen it
before-padding : (l : List ℕ) (m : ℕ) → before_nul (l ++ replicate m 0) ≡ before_nul l
unfolding before_nul
before-padding [] m = only-nuls m
before-padding (b ∷ l) m = ap (λ (t : List ℕ). cond (eqb b 0) [] (b ∷ t)) (before-padding l m)

-- ---- blobs: the data of some items, and where each ends
abbrev data' : List (List ℕ) → List ℕ
data' xs = joined (λ x. x) xs

data-part : (xs : List (List ℕ)) (i : ℕ) → length (data' (take i xs)) ≤ length (data' xs)
unfolding joined
data-part xs zero = omega arith
data-part [] (suc i) = omega arith
data-part (x ∷ xs) (suc i) =
    rw (length-append x (data' (take i xs)), length-append x (data' xs)) (omega (arith, data-part xs i))

ends_at : (at : ℕ) (xs : List (List ℕ)) (i : ℕ) → i < length xs → get_or (ends_from at xs) i 0 ≡ at + length (data' (take (suc i) xs))
unfolding ends_from joined
ends_at at [] i h = absurd (omega arith)
ends_at at (x ∷ xs) zero h = rw (append-nil x)
ends_at at (x ∷ xs) (suc i) h =
    rw (length-append x (data' (take (suc i) xs))) (omega (arith, ends_at (at + length x) xs i (omega arith)))

-- item i stands between the items before it and those behind it
data-item :
    (xs : List (List ℕ)) (i : ℕ) → i < length xs
    → take (length (data' (take (suc i) xs)) - length (data' (take i xs))) (drop (length (data' (take i xs))) (data' xs)) ≡ get_or xs i []
unfolding joined
data-item [] i h = absurd (omega arith)
data-item (x ∷ xs) zero h = rw (append-nil x) (take_at x (data' xs) (length x - 0) (omega arith))
data-item (x ∷ xs) (suc i) h =
    let a : ℕ = length (data' (take (suc i) xs)) in
    let b : ℕ = length (data' (take i xs)) in
    let e : length x + a - (length x + b) ≡ a - b = omega arith in
    rw (length-append x (data' (take (suc i) xs)), length-append x (data' (take i xs)), e, drop-append-add x (data' xs) b)
    (data-item xs i (omega arith))

ends-rise : (at room : ℕ) (xs : List (List ℕ)) → at + length (data' xs) ≤ room → rising at room (ends_from at xs) ≡ true
unfolding ends_from rising joined
ends-rise at room [] h = refl
ends-rise at room (x ∷ xs) h =
    let m : length (x ++ data' xs) ≡ length x + length (data' xs) = length-append x (data' xs) in
    let a : at ≤ at + length x = omega arith in
    let b : at + length x ≤ room = omega arith in
    simp (le-leb at (at + length x) a, le-leb (at + length x) room b) (ends-rise (at + length x) room xs (omega arith))

ends_last : (at : ℕ) (xs : List (List ℕ)) → last_of at (ends_from at xs) ≡ at + length (data' xs)
unfolding ends_from last_of joined
ends_last at [] = sym (add-zero at)
ends_last at (x ∷ xs) = rw (length-append x (data' xs)) (omega (arith, ends_last (at + length x) xs))

-- ---- their block
abbrev blob_block : List (List ℕ) → List ℕ
blob_block xs = joined (little 4) (ends_from 0 xs) ++ data' xs

ends-wide : (es : List ℕ) → Each (Wide (little 4) 4) es
ends-wide es = all-each (Wide (little 4) 4) (λ e. refl) es

module _ (xs : List (List ℕ)) (small : length (data' xs) < 2 ^ 32) where
  abbrev block : List ℕ
  block = blob_block xs

  length-head : length (joined (little 4) (ends_from 0 xs)) ≡ 4 * length xs
  length-head = length-joined (little 4) 4 (ends_from 0 xs) (ends-wide (ends_from 0 xs)) ∙ omega (arith, length-ends 0 xs)

  blob-end : (i : ℕ) → i < length xs → end_at block i ≡ length (data' (take (suc i) xs))
  unfolding end_at
  blob-end i h =
      let m : 4 * i ≡ i * 4 = mul_comm 4 i in
      let l : i < length (ends_from 0 xs) = omega (arith, length-ends 0 xs) in
      let e : get_or (ends_from 0 xs) i 0 ≡ length (data' (take (suc i) xs)) = ends_at 0 xs i h ∙ zero-add (length (data' (take (suc i) xs))) in
      let s : length (data' (take (suc i) xs)) < 4294967296 = omega (arith, data-part xs (suc i)) in
      rw (m, item-joined (little 4) 4 (ends_from 0 xs) 0 (data' xs) (ends-wide (ends_from 0 xs)) i l, e)
      (number-bytes low_first 4 (length (data' (take (suc i) xs))) ∙ mod-eq_of_lt s)

  blob-start : (i : ℕ) → i < length xs → start_at block i ≡ length (data' (take i xs))
  unfolding start_at joined
  blob-start zero h = refl
  blob-start (suc i) h = blob-end i (omega arith)

  blob-ends : ends_of (length xs) block ≡ ends_from 0 xs
  unfolding ends_of
  blob-ends =
      ext_get_or 0 (map (end_at block) (places (length xs) 0)) (ends_from 0 xs) (length_over (end_at block) (length xs) 0 ∙ sym (length-ends 0 xs))
      (λ i l. let m : i < length xs = omega (arith, length_over (end_at block) (length xs) 0) in
      get_d_over (end_at block) (length xs) 0 i 0 m ∙ ap (end_at block) (zero-add i) ∙ blob-end i m
      ∙ sym (ends_at 0 xs i m ∙ zero-add (length (data' (take (suc i) xs)))))

  length-blobs : length block ≡ 4 * length xs + length (data' xs)
  length-blobs = length-append (joined (little 4) (ends_from 0 xs)) (data' xs) ∙ omega (arith, length-head)

  blobs-open : lengths_number blob (length xs) block ≡ 0
  blobs-open =
      let r : length block - 4 * length xs ≡ length (data' xs) = omega (arith, length-blobs) in
      sym (last-same (length xs) block (omega (arith, length-blobs))
      (rw (blob-ends, r) (ends-rise 0 (length (data' xs)) xs (omega arith)))
      (rw (blob-ends, r) (ends_last 0 xs ∙ zero-add (length (data' xs)))))

  blob-item : (i : ℕ) → i < length xs → blob_at (length xs) block i ≡ get_or xs i []
  unfolding blob_at
  blob-item i h =
      let e : 4 * length xs + length (data' (take i xs)) ≡ length (joined (little 4) (ends_from 0 xs)) + length (data' (take i xs))
      = omega (arith, length-head) in
      rw (blob-end i h, blob-start i h, e, drop-append-add (joined (little 4) (ends_from 0 xs)) (data' xs) (length (data' (take i xs))))
      (data-item xs i h)

-- ---- blob and string
module _ (text : Bool) where
  blob-data : (rows : List Row) → joined (item_of (Blob text)) rows ≡ data' (map (item_of (Blob text)) rows)
  unfolding joined
  blob-data [] = refl
  blob-data (r ∷ rows) = ap (λ (l : List ℕ). item_of (Blob text) r ++ l) (blob-data rows)

  blob-block : (rows : List Row) → plain_of (Blob text) rows ≡ blob_block (map (item_of (Blob text)) rows)
  unfolding plain_of
  blob-block rows = ap (λ (l : List ℕ). joined (little 4) (ends_from 0 (map (item_of (Blob text)) rows)) ++ l) (blob-data rows)

  module _ (rows : List Row) (s : length (plain_of (Blob text) rows) < 2 ^ 32) where
    abbrev items : List (List ℕ)
    items = map (item_of (Blob text)) rows

    blob-small : length (data' items) < 2 ^ 32
    blob-small =
        let e : length (plain_of (Blob text) rows) ≡ length (blob_block items) = ap length (blob-block rows) in
        omega (arith, length-append (joined (little 4) (ends_from 0 items)) (data' items))

    as-blobs : lengths_number blob (length rows) (plain_of (Blob text) rows) ≡ 0
    as-blobs = rw (blob-block rows, ← length-map rows (item_of (Blob text))) (blobs-open items blob-small)

    blob-lengths : lengths_number (Blob text) (length rows) (plain_of (Blob text) rows) ≡ 0
    unfolding lengths_number
    blob-lengths = as-blobs

    blob-items : (i : ℕ) → i < length rows → blob_at (length rows) (plain_of (Blob text) rows) i ≡ bytes_in (get_or rows i null)
    unfolding item_of bytes_in
    blob-items i h =
        let m : length items ≡ length rows = length-map rows (item_of (Blob text)) in
        rw (blob-block rows, ← m) (blob-item items blob-small i (omega arith)) ∙ get_or-map (item_of (Blob text)) rows i null

-- ---- every kind
fixed-item :
    (p : Primitive) (rows : List Row) → Each (Fits (Fixed p)) rows → (i : ℕ) → i < length rows
    → fixed_at p (plain_of (Fixed p) rows) i ≡ int_in (get_or rows i null)
unfolding fixed_at plain_of item_of
fixed-item p rows f i h =
    let e = item-joined (item_of (Fixed p)) (width_of p) rows null [] (fixed-wide p rows) i h in
    ap (decoded p) (rw (append-nil (joined (item_of (Fixed p)) rows)) at e)
    ∙ fixed-trip p (get_or rows i null) (each_at (Fits (Fixed p)) rows null f i h)

char-item :
    (w : ℕ) (rows : List Row) → Each (Fits (Char w)) rows → (i : ℕ) → i < length rows
    → char_at w (plain_of (Char w) rows) i ≡ before_nul (bytes_in (get_or rows i null))
unfolding char_at plain_of item_of
char-item w rows f i h =
    let r : Row = get_or rows i null in
    let e = item-joined (item_of (Char w)) w rows null [] (char-wide w rows f) i h in
    ap before_nul (rw (append-nil (joined (item_of (Char w)) rows)) at e)
    ∙ before-padding (bytes_in r) (w - length (bytes_in r))

-- item i of the block is what is kept of row i
pub plain_row_lem :
    (k : Kind) (rows : List Row) → Each (Fits k) rows → length (plain_of k rows) < 2 ^ 32
    → (i : ℕ) → i < length rows → plain_row k (length rows) (plain_of k rows) i ≡ kept k (get_or rows i null)
unfolding plain_row cut filled
plain_row_lem (Fixed p) rows f s i h = ap int (fixed-item p rows f i h)
plain_row_lem (Char w) rows f s i h = ap bytes (char-item w rows f i h)
plain_row_lem (Blob text) rows f s i h = ap bytes (blob-items text rows s i h)

-- no plain rule refuses the block: the lengths and the ends are right
lengths-open :
    (k : Kind) (rows : List Row) → Each (Fits k) rows → length (plain_of k rows) < 2 ^ 32 → lengths_number k (length rows) (plain_of k rows) ≡ 0
lengths-open (Fixed p) rows f s =
    unfold plain_of in
    fixed-length p (length rows) (joined (item_of (Fixed p)) rows) (length-joined (item_of (Fixed p)) (width_of p) rows (fixed-wide p rows))
lengths-open (Char w) rows f s =
    unfold plain_of in
    char-length w (length rows) (joined (item_of (Char w)) rows) (length-joined (item_of (Char w)) w rows (char-wide w rows f))
lengths-open (Blob text) rows f s = blob-lengths text rows s

-- and a row that fits char or string is text, also up to its first NUL
fits-text : (k : Kind) (r : Row) → Fits k r → holds_text k ≡ true → is_text (bytes_in r) ≡ true
unfolding fits bytes_in
fits-text (Fixed p) r f h = clash (sym h)
fits-text (Char w) null f h = no_text
fits-text (Char w) (int v) f h = clash (sym f)
fits-text (Char w) (bytes bs) f h = (both (leb (length bs) w) (is_text bs) f).1
fits-text (Blob true) null f h = no_text
fits-text (Blob true) (int v) f h = clash (sym f)
fits-text (Blob true) (bytes bs) f h = f
fits-text (Blob false) r f h = clash (sym h)

kept-text : (k : Kind) (r : Row) → is_text (bytes_in r) ≡ true → holds_text k ≡ true → is_text (bytes_in (kept k r)) ≡ true
unfolding cut filled bytes_in
kept-text (Fixed p) r t h = clash (sym h)
kept-text (Char w) r t h = text-before-nul (bytes_in r) t
kept-text (Blob text) r t h = t

pub plain-opens :
    (k : Kind) (rows : List Row) → Each (Fits k) rows → length (plain_of k rows) < 2 ^ 32 → plain_number k (length rows) (plain_of k rows) ≡ 0
plain-opens k rows f s =
    all-text k (length rows) (plain_of k rows) (lengths-open k rows f s)
    (rows-text k (length rows) (plain_of k rows)
    (λ h i l. ap (λ (r : Row). is_text (bytes_in r)) (plain_row_lem k rows f s i l)
    ∙ kept-text k (get_or rows i null) (fits-text k (get_or rows i null) (each_at (Fits k) rows null f i l) h) h))
