-- Items that are text: a column without a byte above 127, an item without one, and item after item. Assumes nothing.
use mathlib.Core.Path.{◌≡◌, refl, sym, ap, ◌∙◌}
use mathlib.Core.Bool.{Bool, true, false, cond}
use mathlib.Core.List.{List, [], ◌∷◌, ◌++◌}
use mathlib.Core.Logic.{◌⊎◌, inl, inr, ⊎_elim}
use Prim.Native.Nat.{ℕ, zero, suc, ◌+◌, ◌-◌, ◌*◌, ◌≤◌, ◌<◌}
use native.Mathlib.Nat.{add-zero, zero-add}
use native.Mathlib.Numerals.{add-one}
use native.Mathlib.Omega.{arith}
use lib.Dec.{eqb}
use lib.ListN.{length, take, drop, length-drop}
use lib.Seq.{drop-drop, take-length, take_all}
use borrow.Author.Tests.{eqb-true}
use Rattle.encode.specs.Kinds.{blob, string, holds_text}
use Rattle.encode.proofs.Bools.{clash, both}
use Rattle.encode.specs.declared.Kind.{Kind}
use Rattle.encode.specs.declared.Kind.TheVariants.{Fixed, Char, Blob}
use Rattle.utf8.specs.Utf8.{is_text}
use Rattle.utf8.specs.States.{is_ascii}
use Rattle.utf8.proofs.Ascii.{ascii-text, ascii-part}
use Rattle.utf8.proofs.Cutting.{text-before}
use Rattle.plain.specs.Rows.{bytes_in}
use Rattle.plain.specs.Plain.{all_of, places, end_at, start_at, before_nul, char_at, blob_at, plain_row, all_text}
use Rattle.plain.proofs.Chars.{take-char}

-- ---- a test of each
pub all-of : (f : ℕ → Bool) → ((i : ℕ) → f i ≡ true) → (is : List ℕ) → all_of f is ≡ true
unfolding all_of
all-of f h [] = refl
all-of f h (i ∷ is) = rw (h i) (all-of f h is)

pub all-places : (f : ℕ → Bool) (m n i : ℕ) → i + n ≤ m → ((j : ℕ) → j < m → f j ≡ true) → all_of f (places n i) ≡ true
unfolding all_of places
all-places f m zero i l h = refl
all-places f m (suc n) i l h = rw (h i (omega arith)) (all-places f m n (suc i) (omega arith) h)

pub places-all : (f : ℕ → Bool) (n i : ℕ) → all_of f (places n i) ≡ true → (j : ℕ) → j < n → f (i + j) ≡ true
unfolding all_of places
places-all f zero i h j l = absurd (omega arith)
places-all f (suc n) i h zero l = ap f (add-zero i) ∙ (both (f i) (all_of f (places n (suc i))) h).0
places-all f (suc n) i h (suc j) l =
    let e : i + suc j ≡ suc i + j = omega arith in
    ap f e ∙ places-all f n (suc i) (both (f i) (all_of f (places n (suc i))) h).1 j (omega arith)

-- the loop over n items: those passed are good, and what is left decides
pub record Left (f : ℕ → Bool) (n i : ℕ) : Type 0 where
  pub rest : all_of f (places n 0) ≡ all_of f (places (n - i) i)
  pub sound : i ≤ n

pub left-start : (f : ℕ → Bool) (n : ℕ) → Left f n 0
left-start f n = let z : n - 0 ≡ n = omega arith in record { rest = rw z; sound = omega arith }

module _ {f : ℕ → Bool} {n i : ℕ} (g : Left f n i) where
  module _ (h : i < n) where
    next : n - i ≡ suc (n - (i + 1))
    next = omega arith

    pub left_step : f i ≡ true → Left f n (i + 1)
    unfolding all_of places
    left_step t = record { rest = g.rest ∙ rw (next, add-one) (rw t); sound = omega arith }

    pub left-stop : f i ≡ false → false ≡ all_of f (places n 0)
    unfolding all_of places
    left-stop t = sym (g.rest ∙ rw next (rw t))

  pub left_end : n ≤ i → true ≡ all_of f (places n 0)
  unfolding all_of places
  left_end h = let z : n - i ≡ 0 = omega arith in sym (g.rest ∙ rw z)

-- ---- char
-- a text up to its first NUL is a text: there is no NUL, or the text goes on behind it
record Behind (bs xs : List ℕ) : Type 0 where
  rest : List ℕ
  whole : bs ≡ xs ++ (0 ∷ rest)

nul-in : (bs : List ℕ) → (before_nul bs ≡ bs) ⊎ Behind bs (before_nul bs)
unfolding before_nul
nul-in [] = inl refl
nul-in (b ∷ bs) = by (eqb b 0) refl (nul-in bs)
  where
    by : (t : Bool) → eqb b 0 ≡ t → (before_nul bs ≡ bs) ⊎ Behind bs (before_nul bs)
        → (cond t [] (b ∷ before_nul bs) ≡ b ∷ bs) ⊎ Behind (b ∷ bs) (cond t [] (b ∷ before_nul bs))
    by true e f = inr (record { rest = bs; whole = ap (λ (x : ℕ). x ∷ bs) (eqb-true b 0 e) })
    by false e (inl p) = inl (ap (λ (l : List ℕ). b ∷ l) p)
    by false e (inr q) = inr (record { rest = q.rest; whole = ap (λ (l : List ℕ). b ∷ l) q.whole })

pub text-before-nul : (bs : List ℕ) → is_text bs ≡ true → is_text (before_nul bs) ≡ true
text-before-nul bs h = ⊎_elim (λ p. ap is_text p ∙ h) (λ q. text-before (before_nul bs) q.rest (ap is_text (sym q.whole) ∙ h)) (nul-in bs)

module _ (w : ℕ) (s : List ℕ) where
  pub char-ascii : (i : ℕ) → is_ascii (take w (drop (i * w) s)) ≡ true → is_text (char_at w s i) ≡ true
  unfolding char_at
  char-ascii i h = text-before-nul (take w (drop (i * w) s)) (ascii-text (take w (drop (i * w) s)) h)

  -- m is the length that the code found, r what it made of so many bytes
  pub char-walked : (i m : ℕ) {r : Bool} → m ≡ length (char_at w s i) → r ≡ is_text (take m (drop (i * w) s)) → r ≡ is_text (char_at w s i)
  char-walked i m e h = h ∙ ap (λ (k : ℕ). is_text (take k (drop (i * w) s))) e ∙ ap is_text (take-char w s i)

  pub chars_ascii : (n : ℕ) → is_ascii (take (length s) (drop 0 s)) ≡ true → all_text (Char w) n s ≡ true
  unfolding all_text
  chars_ascii n h =
      let g : is_ascii s ≡ true = ap is_ascii (sym (take-length s)) ∙ h in
      all-of (λ i. is_text (char_at w s i)) (λ i. char-ascii i (ascii-part (i * w) w s g)) (places n 0)

-- ---- string
module _ (n : ℕ) (s : List ℕ) where
  pub strings-ascii : 4 * n ≤ length s → is_ascii (take (length s - 4 * n) (drop (4 * n) s)) ≡ true → all_text string n s ≡ true
  unfolding all_text blob_at
  strings-ascii l h =
      let e : length (drop (4 * n) s) ≡ length s - 4 * n = length-drop (4 * n) s in
      let g : is_ascii (drop (4 * n) s) ≡ true = ap is_ascii (sym (take_all (length s - 4 * n) (drop (4 * n) s) (omega arith))) ∙ h in
      all-of (λ i. is_text (take (end_at s i - start_at s i) (drop (4 * n + start_at s i) s)))
      (λ i. ap (λ (t : List ℕ). is_text (take (end_at s i - start_at s i) t)) (sym (drop-drop (start_at s i) (4 * n) s))
      ∙ ascii-text (take (end_at s i - start_at s i) (drop (start_at s i) (drop (4 * n) s))) (ascii-part (start_at s i) (end_at s i - start_at s i) (drop (4 * n) s) g))
      (places n 0)

  -- the bytes of item i, as the code found them
  pub string-found : (i : ℕ) {bs : List ℕ} → bs ≡ bytes_in (plain_row blob n s i) → is_text bs ≡ is_text (blob_at n s i)
  unfolding plain_row bytes_in
  string-found i e = ap is_text e

-- ---- every item of a sound block of char or string is text as it is read
pub row-text : (k : Kind) (n : ℕ) (s : List ℕ) → all_text k n s ≡ true → holds_text k ≡ true → (i : ℕ) → i < n → is_text (bytes_in (plain_row k n s i)) ≡ true
unfolding all_text plain_row bytes_in
row-text (Fixed p) n s h e i l = clash (sym e)
row-text (Char w) n s h e i l = rw zero-add at (places-all (λ j. is_text (char_at w s j)) n 0 h i l)
row-text (Blob true) n s h e i l = rw zero-add at (places-all (λ j. is_text (blob_at n s j)) n 0 h i l)
row-text (Blob false) n s h e i l = clash (sym e)

pub rows-text :
    (k : Kind) (n : ℕ) (s : List ℕ) → (holds_text k ≡ true → (i : ℕ) → i < n → is_text (bytes_in (plain_row k n s i)) ≡ true) → all_text k n s ≡ true
unfolding all_text plain_row bytes_in
rows-text (Fixed p) n s h = refl
rows-text (Char w) n s h = all-places (λ j. is_text (char_at w s j)) n n 0 (omega arith) (λ j l. h refl j l)
rows-text (Blob true) n s h = all-places (λ j. is_text (blob_at n s j)) n n 0 (omega arith) (λ j l. h refl j l)
rows-text (Blob false) n s h = refl
