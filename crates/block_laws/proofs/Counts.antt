-- A block is sound for one number of rows at most, for every pair: a block's bytes tell how many rows it holds. Assumes nothing.
use Rattle.std.specs.Prelude.{Option, Some, None, Result, Ok}
use Prim.Native.Nat.{ℕ, ◌+◌, ◌-◌, ◌*◌, ◌≤◌, ◌<◌}
use native.Mathlib.Nat.{le_antisymm}
use native.Mathlib.Omega.{arith}
use mathlib.Core.Bool.{Bool, true, false, cond, ◌&&◌, and-eq-true_iff}
use mathlib.Core.List.{List, [], ◌∷◌, ◌++◌, map}
use mathlib.Core.Logic.{⊎_elim}
use mathlib.Core.Path.{◌≡◌, refl, sym, ap, ◌∙◌}
use lib.Dec.{ltb, leb, eqb}
use lib.ListN.{length}
use borrow.Author.Tests.{leb-true, eqb-false}
use Rattle.encode.specs.Kinds.{shape_of, width_of, numbered, kind_of}
use Rattle.encode.proofs.Shapes.{wide_as}
use Rattle.encode.specs.declared.Shape.{Shape}
use Rattle.encode.specs.declared.Shape.TheVariants.{Bool as BoolShape, Low2, Low4, Low8, High4, High8}
use Rattle.encode.specs.declared.Kind.{Kind}
use Rattle.encode.specs.declared.Kind.TheVariants.{Fixed, Char, Blob}
use Rattle.area.proofs.Laws.{lt-or-ge}
use Rattle.plain.specs.Plain.{places, end_at, ends_of, rising, last_of, plain_number}
use Rattle.plain.proofs.Items.{item_room}
use Rattle.plain.proofs.Numbers.{fixed_plain, char-plain, blobs-plain}
use Rattle.plain.proofs.Places.{over_add}
use Rattle.nullable.specs.Nullable.{bitmap_length, plain_part, nullable_number}
use Rattle.nullable.proofs.Parts.{sound}
use Rattle.rle.specs.RunLength.{run_length_number}
use Rattle.dict.specs.Dictionary.{dictionary_number}
use Rattle.format.specs.declared.Encoding.{Encoding}
use Rattle.format.specs.declared.Encoding.TheVariants.{Plain, Nullable, RunLength, RunLengthNullable, Dictionary}
use Rattle.format.specs.declared.Column.{Column}
use Rattle.format.specs.Blocks.{with_encoding, column_of}
use Rattle.format.specs.Opening.{rules_of, column_number, open_number}
use Rattle.format.proofs.Sound.{column-sound, runs-sound, dictionary-sound}

-- ---- an item of fixed kinds and chars has a byte at least
abbrev Wide : Kind → Type 0
Wide (Fixed p) = Unit
Wide (Char w) = 0 < w
Wide (Blob text) = Unit

abbrev WideKind : Option Kind → Type 0
WideKind None = Unit
WideKind (Some k) = Wide k

abbrev WideColumn : Option Column → Type 0
WideColumn None = Unit
WideColumn (Some c) = Wide c.kind

either-kind : (t : Bool) (a b : Option Kind) → WideKind a → WideKind b → WideKind (cond t a b)
either-kind true a b h k = h
either-kind false a b h k = k

either-column : (t : Bool) (a b : Option Column) → WideColumn a → WideColumn b → WideColumn (cond t a b)
either-column true a b h k = h
either-column false a b h k = k

numbered-wide : (k : ℕ) → WideKind (numbered k)
unfolding numbered
numbered-wide k =
    either-kind (eqb k 0) _ _ tt
    (either-kind (eqb k 1) _ _ tt
    (either-kind (eqb k 2) _ _ tt
    (either-kind (eqb k 3) _ _ tt
    (either-kind (eqb k 4) _ _ tt
    (either-kind (eqb k 5) _ _ tt
    (either-kind (eqb k 6) _ _ tt
    (either-kind (eqb k 7) _ _ tt
    (either-kind (eqb k 9) _ _ tt
    (either-kind (eqb k 10) _ _ tt
    (either-kind (eqb k 11) _ _ tt tt))))))))))

kind-wide : (k w : ℕ) → WideKind (kind_of k w)
unfolding kind_of
kind-wide k w = either-kind (eqb k 8) _ _ (char (eqb w 0) refl) (either-kind (eqb w 0) _ _ (numbered-wide k) tt)
  where
    char : (t : Bool) → eqb w 0 ≡ t → WideKind (cond t None (cond (ltb 255 w) None (Some (Char w))))
    char true e = tt
    char false e = let n = eqb-false w 0 e in either-kind (ltb 255 w) None (Some (Char w)) tt (omega arith)

with-wide : (f : Option Kind) (e : ℕ) → WideKind f → WideColumn (with_encoding f e)
unfolding with_encoding
with-wide None e h = tt
with-wide (Some k) e h =
    either-column (eqb e 0) _ _ h
    (either-column (eqb e 1) _ _ h
    (either-column (eqb e 2) _ _ h
    (either-column (eqb e 3) _ _ h
    (either-column (eqb e 4) _ _ h tt))))

column-wide : (kind encoding width : ℕ) → WideColumn (column_of kind encoding width)
unfolding column_of
column-wide kind encoding width = with-wide (kind_of kind width) encoding (kind-wide kind width)

-- ---- plain blocks
product-below : (n m w : ℕ) → 0 < w → n * w ≤ m * w → n ≤ m
product-below n m w p h = ⊎_elim
    (λ (l : m < n). absurd (omega (arith, item_room m n w (n * w) l (omega arith))))
    (λ (l : n ≤ m). l)
    (lt-or-ge m n)

same-product : (n m w : ℕ) → 0 < w → n * w ≡ m * w → n ≡ m
same-product n m w p h = le_antisymm (product-below n m w p (omega arith)) (product-below m n w p (omega arith))

width_some : (s : Shape) → 0 < wide_as s
width_some BoolShape = omega arith
width_some Low2 = omega arith
width_some Low4 = omega arith
width_some Low8 = omega arith
width_some High4 = omega arith
width_some High8 = omega arith

-- ends that rise: the last is not below the one before the first, and what holds of all holds of those behind some
last-above : (before room : ℕ) (es : List ℕ) → rising before room es ≡ true → before ≤ last_of before es
unfolding rising last_of
last-above before room [] h = omega arith
last-above before room (e ∷ es) h =
    let x = (and-eq-true_iff (leb before e && leb e room) (rising e room es)).0 h in
    let y = (and-eq-true_iff (leb before e) (leb e room)).0 x.0 in
    omega (arith, leb-true before e y.0, last-above e room es x.1)

rising-behind : (before room : ℕ) (xs ys : List ℕ) → rising before room (xs ++ ys) ≡ true → rising (last_of before xs) room ys ≡ true
unfolding rising last_of
rising-behind before room [] ys h = h
rising-behind before room (e ∷ es) ys h =
    rising-behind e room es ys ((and-eq-true_iff (leb before e && leb e room) (rising e room (es ++ ys))).0 h).1

last-behind : (before : ℕ) (xs ys : List ℕ) → last_of before (xs ++ ys) ≡ last_of (last_of before xs) ys
unfolding last_of
last-behind before [] ys = refl
last-behind before (e ∷ es) ys = last-behind e es ys

-- With more items the last end is not smaller, but the data is.
blob-above : (text : Bool) (n d : ℕ) (b : List ℕ) → plain_number (Blob text) n b ≡ 0 → plain_number (Blob text) (n + d) b ≡ 0 → d ≡ 0
unfolding ends_of
blob-above text n d b h k =
    let x = blobs-plain text n b h in
    let y = blobs-plain text (n + d) b k in
    let first : List ℕ = ends_of n b in
    let more : List ℕ = map (end_at b) (places d (0 + n)) in
    let e : ends_of (n + d) b ≡ first ++ more = over_add (end_at b) n d 0 in
    let r : rising 0 (length b - 4 * (n + d)) (first ++ more) ≡ true = rw e at y.1 in
    let l : last_of 0 (first ++ more) ≡ length b - 4 * (n + d) = rw e at y.2 in
    let u = last-above (last_of 0 first) (length b - 4 * (n + d)) more (rising-behind 0 (length b - 4 * (n + d)) first more r) in
    omega (arith, x.0, x.2, y.0, l, u, last-behind 0 first more)

blob-below : (text : Bool) (n m : ℕ) (b : List ℕ) → plain_number (Blob text) n b ≡ 0 → plain_number (Blob text) m b ≡ 0 → n ≤ m → n ≡ m
blob-below text n m b h k l =
    let e : m ≡ n + (m - n) = omega arith in
    omega (arith, blob-above text n (m - n) b h (ap (λ (j : ℕ). plain_number (Blob text) j b) (sym e) ∙ k))

plain-count : (k : Kind) → Wide k → (n m : ℕ) (b : List ℕ) → plain_number k n b ≡ 0 → plain_number k m b ≡ 0 → n ≡ m
plain-count (Fixed p) w n m b h k = same-product n m (width_of p) (width_some (shape_of p)) (sym (fixed_plain p n b h) ∙ fixed_plain p m b k)
plain-count (Char c) w n m b h k = same-product n m c w (sym (char-plain c n b h) ∙ char-plain c m b k)
plain-count (Blob text) w n m b h k = ⊎_elim
    (λ (l : n < m). blob-below text n m b h k (omega arith))
    (λ (l : m ≤ n). sym (blob-below text m n b k h l))
    (lt-or-ge n m)

-- ---- nullable blocks: the trailer is the bitmap's length, and so the plain part is the same
nullable-count : (k : Kind) → Wide k → (n m : ℕ) (b : List ℕ) → nullable_number k n b ≡ 0 → nullable_number k m b ≡ 0 → n ≡ m
unfolding plain_part
nullable-count k w n m b h i =
    let x = sound k n b h in
    let y = sound k m b i in
    let e : bitmap_length m ≡ bitmap_length n = sym y.length-told ∙ x.length-told in
    plain-count k w n m (plain_part n b) x.plain (rw e at y.plain)

-- ---- blocks of runs: the sum of the counts
total-one : {n m : ℕ} → ◌≡◌ {A = Result ℕ ℕ} (Ok n) (Ok m) → n ≡ m
total-one e = cc

runs-count : (inner : ℕ → List ℕ → ℕ) (n m : ℕ) (b : List ℕ) → run_length_number inner n b ≡ 0 → run_length_number inner m b ≡ 0 → n ≡ m
runs-count inner n m b h k = total-one (sym (runs-sound inner n b h).sum ∙ (runs-sound inner m b k).sum)

dictionary-count : (k : Kind) (n m : ℕ) (b : List ℕ) → dictionary_number k n b ≡ 0 → dictionary_number k m b ≡ 0 → n ≡ m
dictionary-count k n m b h i = total-one (sym (dictionary-sound k n b h).parts.key-runs.sum ∙ (dictionary-sound k m b i).parts.key-runs.sum)

-- ---- every encoding
rules-count : (k : Kind) (e : Encoding) → Wide k → (n m : ℕ) (b : List ℕ) → rules_of k e n b ≡ 0 → rules_of k e m b ≡ 0 → n ≡ m
unfolding rules_of
rules-count k Plain w n m b h i = plain-count k w n m b h i
rules-count k Nullable w n m b h i = nullable-count k w n m b h i
rules-count k RunLength w n m b h i = runs-count (plain_number k) n m b h i
rules-count k RunLengthNullable w n m b h i = runs-count (nullable_number k) n m b h i
rules-count k Dictionary w n m b h i = dictionary-count k n m b h i

column-count : (c : Option Column) → WideColumn c → (n m : ℕ) (b : List ℕ) → column_number c n b ≡ 0 → column_number c m b ≡ 0 → n ≡ m
column-count None w n m b h i = absurd (never h)
  where
    never : column_number None n b ≡ 0 → ⊥
    never e = unfold column_number in omega arith
column-count (Some c) w n m b h i = rules-count c.kind c.encoding w n m b (column-sound c.kind c.encoding n b h).rules (column-sound c.kind c.encoding m b i).rules

-- No block opens with two numbers of rows.
pub one-row-count :
    (kind encoding width n m : ℕ) (b : List ℕ) → open_number kind encoding width n b ≡ 0 → open_number kind encoding width m b ≡ 0 → n ≡ m
unfolding open_number
one-row-count kind encoding width n m b h i = column-count (column_of kind encoding width) (column-wide kind encoding width) n m b h i
