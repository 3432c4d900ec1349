-- The rows of a sound plain block: each fits its kind, and all of them together are no longer than the block. Assumes nothing.
use Prim.Native.Nat.{ℕ, zero, suc, ◌+◌, ◌-◌, ◌*◌, ◌≤◌, ◌<◌}
use native.Mathlib.Nat.{add-zero, zero-add}
use native.Mathlib.Omega.{arith}
use mathlib.Core.Bool.{Bool, true, false, cond, ◌&&◌}
use mathlib.Core.List.{List, map}
use mathlib.Core.Path.{◌≡◌, refl}
use lib.Dec.{leb}
use lib.ListN.{length, drop, length-append, length-take}
use borrow.Author.Tests.{leb-true, le-leb}
use Rattle.encode.specs.Kinds.{width_of, takes}
use Rattle.encode.specs.declared.Primitive.{Primitive}
use Rattle.encode.specs.declared.Kind.{Kind}
use Rattle.encode.specs.declared.Kind.TheVariants.{Fixed, Char, Blob}
use Rattle.encode.proofs.Bools.{both}
use Rattle.varint.proofs.OneSpelling.{Bytes}
use Rattle.plain.specs.Rows.{int, bytes_in, fits, same_int, same}
use Rattle.plain.specs.Plain.{joined, places, item_of, end_at, start_at, ends_of, rising, last_of, fixed_at, blob_at, plain_row, plain_number}
use Rattle.plain.proofs.Chars.{length-char}
use Rattle.plain.proofs.Numbers.{text-kept, fixed_plain, blobs-plain}
use Rattle.plain.proofs.Same.{same_self}
use Rattle.plain.proofs.TextItems.{row-text}
use Rattle.lookup.specs.First.{first_at, first_value}
use Rattle.lookup.proofs.Words.{first-untaken}
use Rattle.block_laws.proofs.Plains.{Fits}

-- ---- fixed kinds: a value that is read is one that the kind takes, as any other is found nowhere
first-within : (test : ℕ → Bool) (n m i j : ℕ) → test (i + j) ≡ true → j < m → first_at test n (places m i) ≤ i + j
unfolding first_at places
first-within test n zero i j t l = absurd (omega arith)
first-within test n (suc m) i zero t l = let e : test i ≡ true = rw add-zero at t in rw e (omega arith)
first-within test n (suc m) i (suc j) t l =
    let e : i + suc j ≡ suc i + j = omega arith in
    go (test i) (first-within test n m (suc i) j (rw e at t) (omega arith))
  where
    go : (x : Bool) → first_at test n (places m (suc i)) ≤ suc i + j → cond x i (first_at test n (places m (suc i))) ≤ i + suc j
    go true h = omega arith
    go false h = omega arith

self-int : (p : Primitive) (s : List ℕ) (i : ℕ) → same_int (fixed_at p s i) (fixed_at p s i) ≡ true
unfolding same
self-int p s i = same_self (int (fixed_at p s i))

fixed-taken : (p : Primitive) (n : ℕ) (s : List ℕ) → Bytes s → n * width_of p ≤ length s → (i : ℕ) → i < n → takes p (fixed_at p s i) ≡ true
unfolding first_value
fixed-taken p n s fit room i l = go (takes p (fixed_at p s i)) refl
  where
    go : (t : Bool) → takes p (fixed_at p s i) ≡ t → t ≡ true
    go true e = refl
    go false e =
        let test : ℕ → Bool = λ (j : ℕ). same_int (fixed_at p s i) (fixed_at p s j) in
        let here : test (0 + i) ≡ true = rw zero-add (self-int p s i) in
        absurd (omega (arith, first-untaken p s n (fixed_at p s i) fit room e, first-within test n n 0 i here l))

-- ---- every kind: a row that is read fits
pub char-fits : (w n : ℕ) (s : List ℕ) → plain_number (Char w) n s ≡ 0 → (i : ℕ) → i < n → Fits (Char w) (plain_row (Char w) n s i)
unfolding fits plain_row bytes_in
char-fits w n s h i l = rw (le-leb _ _ (length-char w s i)) (row-text (Char w) n s (text-kept (Char w) n s h) refl i l)

pub plain_fits : (k : Kind) (n : ℕ) (s : List ℕ) → Bytes s → plain_number k n s ≡ 0 → (i : ℕ) → i < n → Fits k (plain_row k n s i)
unfolding fits plain_row bytes_in
plain_fits (Fixed p) n s fit h i l = fixed-taken p n s fit (omega (arith, fixed_plain p n s h)) i l
plain_fits (Char w) n s fit h i l = char-fits w n s h i l
plain_fits (Blob true) n s fit h i l = row-text (Blob true) n s (text-kept (Blob true) n s h) refl i l
plain_fits (Blob false) n s fit h i l = refl

-- ---- blobs: from where item i starts on, the items have no more bytes than lie before the last end
module _ (text : Bool) (n : ℕ) (s : List ℕ) (room : ℕ) where
  items-within :
      (m i before : ℕ) → before ≡ start_at s i → rising before room (map (end_at s) (places m i)) ≡ true
      → before + length (joined (item_of (Blob text)) (map (plain_row (Blob text) n s) (places m i))) ≤ last_of before (map (end_at s) (places m i))
  unfolding places rising start_at last_of joined item_of plain_row bytes_in blob_at
  items-within zero i before e r = omega arith
  items-within (suc m) i before e r =
      let end : ℕ = end_at s i in
      let x = both (leb before end && leb end room) (rising end room (map (end_at s) (places m (suc i)))) r in
      let up = leb-true before end (both (leb before end) (leb end room) x.0).0 in
      let later = items-within m (suc i) end refl x.1 in
      let own = length-take (end - start_at s i) (drop (4 * n + start_at s i) s) in
      rw (length-append (blob_at n s i) (joined (item_of (Blob text)) (map (plain_row (Blob text) n s) (places m (suc i))))) (omega arith)

pub blobs-within :
    (text : Bool) (n : ℕ) (s : List ℕ) → plain_number (Blob text) n s ≡ 0
    → 4 * n + length (joined (item_of (Blob text)) (map (plain_row (Blob text) n s) (places n 0))) ≤ length s
unfolding ends_of start_at
blobs-within text n s h =
    let x = blobs-plain text n s h in
    omega (arith, x.0, x.2, items-within text n s (length s - 4 * n) n 0 0 refl x.1)
