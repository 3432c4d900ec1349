-- A plain or nullable block that begins: the verdict owed is what the rules of 01 say of its bytes, and the stage fits them. Assumes nothing.
use Prim.Native.Nat.{ℕ, zero, suc, ◌+◌, ◌-◌, ◌*◌, ◌≤◌, ◌<◌}
use native.Mathlib.Omega.{arith}
use mathlib.Core.Bool.{Bool, true, false, cond, not}
use mathlib.Core.List.{List, [], ◌∷◌}
use mathlib.Core.Logic.{inl}
use mathlib.Core.Path.{◌≡◌, refl, sym, ap, subst, ◌∙◌}
use lib.Dec.{ltb, eqb}
use lib.ListN.{length, take, drop, take-append-drop}
use lib.Seq.{length-take-le}
use borrow.Author.Tests.{ltb-true, ltb-false, eqb-true, eqb-false, le-ltb}
use Rattle.encode.specs.Kinds.{width_of}
use Rattle.encode.specs.declared.Primitive.{Primitive}
use Rattle.encode.specs.declared.Kind.{Kind}
use Rattle.encode.specs.declared.Kind.TheVariants.{Fixed, Char, Blob}
use Rattle.encode.proofs.Bools.{clash}
use Rattle.limits.specs.Refusals.{CUT, LENGTH, ENDS, TEXT}
use Rattle.plain.specs.Rules.{◌if◌, first_of}
use Rattle.plain.specs.Plain.{places, ends_of, rising, last_of, lengths_number, all_text, plain_number}
use Rattle.plain.proofs.Numbers.{fixed_number, char-other, char-length}
use Rattle.nullable.specs.Nullable.{bitmap_length, plain_part, trailer_of, nullable_number}
use Rattle.nullable.proofs.Number.{no-trailer}
use Rattle.format.specs.declared.Encoding.{Encoding}
use Rattle.format.specs.declared.Encoding.TheVariants.{Plain, Nullable, RunLength, RunLengthNullable, Dictionary}
use Rattle.format.proofs.Answers.{first_one, kept-first}
use Rattle.arriving.specs.Stages.{Done, Trailer}
use Rattle.arriving.specs.Arriving.{trailed, settled, ends_from, chars_from, plain_from, nullable_from, width_in}
use Rattle.arriving_laws.specs.Owed.{trailed_by, on, places_behind, text_from, owed_by, tail_of, Fits, Checked}
use Rattle.arriving_laws.proofs.Fields.{ends-before}
use Rattle.arriving_laws.proofs.Texts.{texts-from-start}

-- ---- the plain rules' number is known
pub settled-owed : (k : Kind) (e : Encoding) (n bits v : ℕ) (xs : List ℕ) → owed_by k e n (settled e bits v) [] xs ≡ trailed_by e bits xs v
unfolding settled trailed owed_by trailed_by
settled-owed k Plain n bits v xs = refl
settled-owed k Nullable n bits v xs = refl
settled-owed k RunLength n bits v xs = refl
settled-owed k RunLengthNullable n bits v xs = refl
settled-owed k Dictionary n bits v xs = refl

pub settled-fits : (k : Kind) (e : Encoding) (bits v m : ℕ) → tail_of e bits ≤ m → Fits k e (settled e bits v) [] m
unfolding settled trailed Fits tail_of
settled-fits k Plain bits v m h = refl
settled-fits k Nullable bits v m h = (refl, omega arith, omega arith)
settled-fits k RunLength bits v m h = refl
settled-fits k RunLengthNullable bits v m h = (refl, omega arith, omega arith)
settled-fits k Dictionary bits v m h = refl

-- ---- ends to come
pub ends-owed :
    (k : Kind) (e : Encoding) (n bits items last data' : ℕ) (xs : List ℕ)
    → owed_by k e n (ends_from e bits items last data') [] xs
    ≡ trailed_by e bits xs (first_of (ENDS if not (rising last data' (ends_of items xs)) ∷ LENGTH if not (eqb (last_of last (ends_of items xs)) data') ∷ []))
unfolding ends_from owed_by ends_of places rising last_of first_of
ends-owed k e n bits zero last data' xs =
    settled-owed k e n bits (LENGTH if not (eqb last data')) xs ∙ ap (trailed_by e bits xs) (sym (first_one (LENGTH if not (eqb last data'))))
ends-owed k e n bits (suc items) last data' xs = refl

pub ends-fits : (k : Kind) (e : Encoding) (bits items last data' m : ℕ) → m ≡ 4 * items + data' + tail_of e bits
    → Fits k e (ends_from e bits items last data') [] m
unfolding ends_from Fits
ends-fits k e bits zero last data' m h = settled-fits k e bits (LENGTH if not (eqb last data')) m (omega arith)
ends-fits k e bits (suc items) last data' m h = (omega arith, omega arith, omega arith)

-- ---- char items to come
pub chars-owed :
    (w : ℕ) (e : Encoding) (n bits left at : ℕ) (ended : Bool) (xs : List ℕ)
    → owed_by (Char w) e n (chars_from e bits left at ended) [] xs ≡ trailed_by e bits xs (TEXT if not (text_from w (on at ended []) (take left xs)))
unfolding chars_from owed_by width_in places_behind
chars-owed w e n bits zero at ended xs = settled-owed (Char w) e n bits 0 xs
chars-owed w e n bits (suc left) at ended xs = refl

pub chars-fits : (w : ℕ) (e : Encoding) (bits items len m : ℕ) → 0 < w → len ≡ items * w → m ≡ len + tail_of e bits
    → Fits (Char w) e (chars_from e bits len 0 false) [] m
unfolding chars_from Fits width_in
chars-fits w e bits items zero m p q h = settled-fits (Char w) e bits 0 m (omega arith)
chars-fits w e bits zero (suc len) m p q h = absurd (omega arith)
chars-fits w e bits (suc items) (suc len) m p q h =
    (omega arith, p, h, (λ g. refl), inl refl, (items, omega arith))

-- ---- a plain block of so many items in the first `len` bytes
-- rules of lengths that are kept leave those of text
text-alone : (k : Kind) (n : ℕ) (b : List ℕ) → lengths_number k n b ≡ 0 → plain_number k n b ≡ TEXT if not (all_text k n b)
unfolding plain_number
text-alone k n b z = kept-first (TEXT if not (all_text k n b) ∷ []) z ∙ first_one (TEXT if not (all_text k n b))

-- blobs have no text
last-kept : (e : ℕ) → first_of (e ∷ 0 ∷ []) ≡ e
unfolding first_of
last-kept zero = refl
last-kept (suc e) = refl

blob-number : (n : ℕ) (b : List ℕ) → plain_number (Blob false) n b ≡ lengths_number (Blob false) n b
unfolding plain_number all_text
blob-number n b = last-kept (lengths_number (Blob false) n b)

module _ (e : Encoding) (n bits items len : ℕ) (xs : List ℕ) (h : length xs ≡ len + tail_of e bits) where
  first-length : length (take len xs) ≡ len
  first-length = length-take-le len xs (omega arith)

  fixed-owed : (p : Primitive) → owed_by (Fixed p) e n (plain_from (Fixed p) e bits items len) [] xs ≡ trailed_by e bits xs (plain_number (Fixed p) items (take len xs))
  unfolding plain_from
  fixed-owed p =
      settled-owed (Fixed p) e n bits (LENGTH if not (eqb len (items * width_of p))) xs
      ∙ ap (trailed_by e bits xs)
      (sym (fixed_number p (width_of p) items (take len xs) refl
      ∙ ap (λ (m : ℕ). LENGTH if not (eqb m (items * width_of p))) first-length))

  blob-owed : owed_by (Blob false) e n (plain_from (Blob false) e bits items len) [] xs ≡ trailed_by e bits xs (plain_number (Blob false) items (take len xs))
  unfolding plain_from lengths_number first_of
  blob-owed = by (ltb len (4 * items)) refl ∙ ap (trailed_by e bits xs) (sym (blob-number items (take len xs)))
    where
      by : (t : Bool) → ltb len (4 * items) ≡ t
          → owed_by (Blob false) e n (cond t (settled e bits CUT) (ends_from e bits items 0 (len - 4 * items))) [] xs
          ≡ trailed_by e bits xs (lengths_number (Blob false) items (take len xs))
      by true l = rw (first-length, l) (settled-owed (Blob false) e n bits CUT xs)
      by false l =
          let g : ends_of items xs ≡ ends_of items (take len xs)
          = ap (ends_of items) (sym (take-append-drop len xs))
          ∙ ends-before (take len xs) (drop len xs) items (omega (arith, first-length, ltb-false len (4 * items) l)) in
          rw (first-length, l, ← g) (ends-owed (Blob false) e n bits items 0 (len - 4 * items) xs)

-- the stage fits its bytes
pub plain_fits : (k : Kind) (e : Encoding) (bits items len : ℕ) → Checked k → Fits k e (plain_from k e bits items len) [] (len + tail_of e bits)
unfolding plain_from Checked
plain_fits (Fixed p) e bits items len c = settled-fits (Fixed p) e bits (LENGTH if not (eqb len (items * width_of p))) (len + tail_of e bits) (omega arith)
plain_fits (Char w) e bits items len c = by (eqb len (items * w)) refl
  where
    by : (t : Bool) → eqb len (items * w) ≡ t
        → Fits (Char w) e (cond t (chars_from e bits len 0 false) (settled e bits LENGTH)) [] (len + tail_of e bits)
    by true l = chars-fits w e bits items len (len + tail_of e bits) c (eqb-true len (items * w) l) refl
    by false l = settled-fits (Char w) e bits LENGTH (len + tail_of e bits) (omega arith)
plain_fits (Blob text) e bits items len c = by (ltb len (4 * items)) refl
  where
    by : (t : Bool) → ltb len (4 * items) ≡ t
        → Fits (Blob text) e (cond t (settled e bits CUT) (ends_from e bits items 0 (len - 4 * items))) [] (len + tail_of e bits)
    by true l = settled-fits (Blob text) e bits CUT (len + tail_of e bits) (omega arith)
    by false l = ends-fits (Blob text) e bits items 0 (len - 4 * items) (len + tail_of e bits) (omega (arith, ltb-false len (4 * items) l))

module _ (k : Kind) (e : Encoding) (items m : ℕ) (c : Checked k) (t : trailed e ≡ true) where
  pub nullable-fits : Fits k e (nullable_from k e items m) [] m
  unfolding nullable_from Fits tail_of
  nullable-fits = first (ltb m 4) refl
    where
      bits : ℕ
      bits = bitmap_length items

      room : bits + 4 ≤ m → m - (bits + 4) + tail_of e bits ≡ m
      room h = rw t (omega arith)

      then : 4 ≤ m → (s : Bool) → ltb m (bits + 4) ≡ s → Fits k e (cond s (Trailer bits CUT) (plain_from k e bits items (m - (bits + 4)))) [] m
      then g true l = (t, omega arith, omega arith)
      then g false l =
          subst (Fits k e (plain_from k e bits items (m - (bits + 4))) []) (room (ltb-false m (bits + 4) l)) (plain_fits k e bits items (m - (bits + 4)) c)

      first : (s : Bool) → ltb m 4 ≡ s
          → Fits k e (cond s (Done CUT) (cond (ltb m (bits + 4)) (Trailer bits CUT) (plain_from k e bits items (m - (bits + 4))))) [] m
      first true l = refl
      first false l = then (ltb-false m 4 l) (ltb m (bits + 4)) refl

-- ---- the rules of a nullable block of at least four bytes: the trailer's, then those behind it
rules-behind : (x : ℕ) (rules : List ℕ) → first_of (x ∷ rules) ≡ first_of (x ∷ first_of rules ∷ [])
unfolding first_of
rules-behind zero rules = sym (first_one (first_of rules))
rules-behind (suc x) rules = refl

behind-trailer :
    (k : Kind) (e : Encoding) (items : ℕ) (xs : List ℕ) → trailed e ≡ true → 4 ≤ length xs
    → trailed_by e (bitmap_length items) xs (first_of (CUT if ltb (length xs) (bitmap_length items + 4) ∷ plain_number k items (plain_part items xs) ∷ []))
    ≡ nullable_number k items xs
unfolding trailed_by nullable_number
behind-trailer k e items xs t h =
    rw (t, le-ltb (length xs) 4 h)
    (sym (kept-first (rule ∷ rules) refl ∙ rules-behind rule rules))
  where
    rule : ℕ
    rule = LENGTH if not (eqb (trailer_of xs) (bitmap_length items))

    rules : List ℕ
    rules = CUT if ltb (length xs) (bitmap_length items + 4) ∷ plain_number k items (plain_part items xs) ∷ []

-- ---- the verdict owed where such a block begins
module _ (e : Encoding) (n bits items len : ℕ) (xs : List ℕ) (h : length xs ≡ len + tail_of e bits) where
  char-owed : (w : ℕ) → 0 < w → owed_by (Char w) e n (plain_from (Char w) e bits items len) [] xs ≡ trailed_by e bits xs (plain_number (Char w) items (take len xs))
  unfolding plain_from
  char-owed w p = by (eqb len (items * w)) refl
    where
      s : List ℕ
      s = take len xs

      by : (t : Bool) → eqb len (items * w) ≡ t
          → owed_by (Char w) e n (cond t (chars_from e bits len 0 false) (settled e bits LENGTH)) [] xs ≡ trailed_by e bits xs (plain_number (Char w) items s)
      by true l =
          let g : length s ≡ items * w = first-length e n bits items len xs h ∙ eqb-true len (items * w) l in
          chars-owed w e n bits len 0 false xs
          ∙ ap (trailed_by e bits xs) (ap (λ (t : Bool). TEXT if not t) (texts-from-start w items s p g) ∙ sym (text-alone (Char w) items s (char-length w items s g)))
      by false l =
          let g : (length s ≡ items * w → ⊥) = λ z. eqb-false len (items * w) l (sym (first-length e n bits items len xs h) ∙ z) in
          settled-owed (Char w) e n bits LENGTH xs ∙ ap (trailed_by e bits xs) (char-other w items s g)

pub plain-owed :
    (k : Kind) (e : Encoding) (n bits items len : ℕ) (xs : List ℕ) → Checked k → length xs ≡ len + tail_of e bits
    → owed_by k e n (plain_from k e bits items len) [] xs ≡ trailed_by e bits xs (plain_number k items (take len xs))
unfolding Checked
plain-owed (Fixed p) e n bits items len xs c h = fixed-owed e n bits items len xs h p
plain-owed (Char w) e n bits items len xs c h = char-owed e n bits items len xs h w c
plain-owed (Blob true) e n bits items len xs c h = clash c
plain-owed (Blob false) e n bits items len xs c h = blob-owed e n bits items len xs h

pub nullable-owed :
    (k : Kind) (e : Encoding) (n items : ℕ) (xs : List ℕ) → Checked k → trailed e ≡ true
    → owed_by k e n (nullable_from k e items (length xs)) [] xs ≡ nullable_number k items xs
unfolding nullable_from owed_by trailed_by plain_part tail_of first_of
nullable-owed k e n items xs c t = first (ltb (length xs) 4) refl
  where
    bits : ℕ
    bits = bitmap_length items

    len : ℕ
    len = length xs - (bits + 4)

    behind : Bool → ℕ
    behind s = trailed_by e bits xs (first_of (CUT if s ∷ plain_number k items (plain_part items xs) ∷ []))

    then : (s : Bool) → ltb (length xs) (bits + 4) ≡ s → owed_by k e n (cond s (Trailer bits CUT) (plain_from k e bits items len)) [] xs ≡ behind s
    then true l = rw t
    then false l =
        plain-owed k e n bits items len xs c (rw t (omega (arith, ltb-false (length xs) (bits + 4) l)))
        ∙ ap (trailed_by e bits xs) (sym (first_one (plain_number k items (take len xs))))

    first : (s : Bool) → ltb (length xs) 4 ≡ s
        → owed_by k e n (cond s (Done CUT) (cond (ltb (length xs) (bits + 4)) (Trailer bits CUT) (plain_from k e bits items len))) [] xs
        ≡ nullable_number k items xs
    first true l = no-trailer k items xs (ltb-true (length xs) 4 l)
    first false l = then (ltb (length xs) (bits + 4)) refl ∙ behind-trailer k e items xs t (ltb-false (length xs) 4 l)
