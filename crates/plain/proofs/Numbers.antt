-- What the plain rules say on each way through the tests of `check`, and what follows where they give 0. Assumes nothing.
use mathlib.Core.Path.{◌≡◌, refl, sym, ap, ◌∙◌}
use mathlib.Core.Bool.{Bool, true, false, not, ◌&&◌, and-eq-true_iff}
use mathlib.Core.List.{List, [], ◌∷◌, map}
use Prim.Native.Nat.{ℕ, zero, suc, ◌+◌, ◌-◌, ◌*◌, ◌≤◌, ◌<◌}
use native.Mathlib.Nat.{add-zero, zero-add, mul-le-mul}
use native.Mathlib.Omega.{arith}
use borrow.Author.Tests.{ltb-false, eqb-true, not-false, eq-eqb, ne_eqb}
use lib.Dec.{ltb, leb, eqb}
use lib.ListN.{length}
use mir.Syntax.{Width, w8, w16, w32, w64, w128}
use mir.Val.{bytes}
use Rattle.encode.specs.Kinds.{layout_of, width_of, blob, string}
use Rattle.encode.specs.declared.Primitive.{Primitive}
use Rattle.encode.specs.declared.Kind.{Kind}
use Rattle.encode.specs.declared.Kind.TheVariants.{Fixed, Char, Blob}
use Rattle.limits.specs.Limits.{MOST_ITEMS}
use Rattle.limits.specs.Refusals.{CUT, LENGTH, ENDS, TEXT}
use Rattle.plain.specs.Rules.{◌if◌, first_of}
use Rattle.plain.specs.Plain.{places, end_at, start_at, ends_of, rising, last_of, lengths_number, all_text, plain_number, least_bytes, ends_good}
use Rattle.plain.proofs.Rules.{kept}

-- ---- the bytes of the items are few enough to count
pub bytes_small : (w : Width) → bytes w ≤ 16
bytes_small w8 = omega arith
bytes_small w16 = omega arith
bytes_small w32 = omega arith
bytes_small w64 = omega arith
bytes_small w128 = omega arith

pub width_few : (p : Primitive) {w : ℕ} → w ≡ width_of p → w ≤ 255
width_few p h = let b = bytes_small (layout_of p).size in omega arith

pub product_small : (n w : ℕ) → n ≤ MOST_ITEMS → w < 256 → n * w ≤ MOST_ITEMS * 256
product_small n w h k = let l : w ≤ 256 = omega arith in mul-le-mul h l

-- ---- the length and end rules, then text
last-kept : (e : ℕ) → first_of (e ∷ 0 ∷ []) ≡ e
unfolding first_of
last-kept zero = refl
last-kept (suc e) = refl

module _ (k : Kind) (n : ℕ) (s : List ℕ) where
  pub lengths-kept : plain_number k n s ≡ 0 → lengths_number k n s ≡ 0
  unfolding plain_number
  lengths-kept h = (kept (lengths_number k n s) (TEXT if not (all_text k n s) ∷ []) h).0

  pub text-kept : plain_number k n s ≡ 0 → all_text k n s ≡ true
  unfolding plain_number first_of
  text-kept h = by (all_text k n s) (kept (lengths_number k n s) (TEXT if not (all_text k n s) ∷ []) h).1
    where
      by : (t : Bool) → first_of (TEXT if not t ∷ []) ≡ 0 → t ≡ true
      by true g = refl
      by false g = absurd (omega arith)

  pub lengths-broken : {r : ℕ} → r ≡ lengths_number k n s → (r ≡ 0 → ⊥) → r ≡ plain_number k n s
  unfolding plain_number first_of
  lengths-broken {r} e h = by r h ∙ ap (λ (x : ℕ). first_of (x ∷ TEXT if not (all_text k n s) ∷ [])) e
    where
      by : (x : ℕ) → (x ≡ 0 → ⊥) → x ≡ first_of (x ∷ TEXT if not (all_text k n s) ∷ [])
      by zero g = absurd (g refl)
      by (suc x) g = refl

  module _ (z : lengths_number k n s ≡ 0) where
    pub all-text : all_text k n s ≡ true → plain_number k n s ≡ 0
    unfolding plain_number first_of
    all-text t = rw (z, t)

    pub not-text : all_text k n s ≡ false → plain_number k n s ≡ TEXT
    unfolding plain_number first_of
    not-text t = rw (z, t)

-- ---- fixed kinds have no text
pub fixed_number : (p : Primitive) (w n : ℕ) (s : List ℕ) → w ≡ width_of p → plain_number (Fixed p) n s ≡ LENGTH if not (eqb (length s) (n * w))
unfolding plain_number lengths_number all_text
fixed_number p w n s e = last-kept (LENGTH if not (eqb (length s) (n * width_of p))) ∙ ap (λ (v : ℕ). LENGTH if not (eqb (length s) (n * v))) (sym e)

module _ {k : Kind} (j : Kind) (e : k ≡ j) (w n : ℕ) (s : List ℕ) (d : plain_number j n s ≡ LENGTH if not (eqb (length s) (n * w))) where
  pub length-same : length s ≡ n * w → 0 ≡ plain_number k n s
  length-same h = sym (ap (λ (i : Kind). plain_number i n s) e ∙ d ∙ simp (eq-eqb (length s) (n * w) h))

  pub length-other : (length s ≡ n * w → ⊥) → LENGTH ≡ plain_number k n s
  length-other h = sym (ap (λ (i : Kind). plain_number i n s) e ∙ d ∙ simp (ne_eqb (length s) (n * w) h))

pub fixed-length : (p : Primitive) (n : ℕ) (s : List ℕ) → length s ≡ n * width_of p → lengths_number (Fixed p) n s ≡ 0
unfolding lengths_number
fixed-length p n s h = simp (eq-eqb (length s) (n * width_of p) h)

-- ---- char: the length, then text
module _ (w n : ℕ) (s : List ℕ) where
  pub char-length : length s ≡ n * w → lengths_number (Char w) n s ≡ 0
  unfolding lengths_number
  char-length h = simp (eq-eqb (length s) (n * w) h)

  pub char-other : (length s ≡ n * w → ⊥) → LENGTH ≡ plain_number (Char w) n s
  unfolding lengths_number
  char-other h = lengths-broken (Char w) n s (simp (ne_eqb (length s) (n * w) h)) (λ (z : LENGTH ≡ 0). omega arith)

-- ---- the plain rules give 0: there are bytes enough, and the rule of the ends holds of each item
none-of-three : (a b c : Bool) → first_of (CUT if a ∷ ENDS if b ∷ LENGTH if c ∷ []) ≡ 0 → (a ≡ false) × (b ≡ false) × (c ≡ false)
unfolding first_of
none-of-three true b c h = absurd (omega arith)
none-of-three false true c h = absurd (omega arith)
none-of-three false false true h = absurd (omega arith)
none-of-three false false false h = (refl, refl, refl)

same_length : (m j : ℕ) → LENGTH if not (eqb m j) ≡ 0 → m ≡ j
same_length m j h = eqb-true m j (by (eqb m j) h) where
  by : (a : Bool) → LENGTH if not a ≡ 0 → a ≡ true
  by true h = refl
  by false h = absurd (omega arith)

pub fixed_plain : (p : Primitive) (n : ℕ) (s : List ℕ) → plain_number (Fixed p) n s ≡ 0 → length s ≡ n * width_of p
unfolding lengths_number
fixed_plain p n s h = same_length (length s) (n * width_of p) (lengths-kept (Fixed p) n s h)

pub char-plain : (w n : ℕ) (s : List ℕ) → plain_number (Char w) n s ≡ 0 → length s ≡ n * w
unfolding lengths_number
char-plain w n s h = same_length (length s) (n * w) (lengths-kept (Char w) n s h)

module _ (text : Bool) (n : ℕ) (s : List ℕ) where
  pub blobs-lengths :
      lengths_number (Blob text) n s ≡ 0
      → (4 * n ≤ length s) × (rising 0 (length s - 4 * n) (ends_of n s) ≡ true) × (last_of 0 (ends_of n s) ≡ length s - 4 * n)
  unfolding lengths_number
  blobs-lengths h =
      let r = rising 0 (length s - 4 * n) (ends_of n s) in
      let l = eqb (last_of 0 (ends_of n s)) (length s - 4 * n) in
      let z = none-of-three (ltb (length s) (4 * n)) (not r) (not l) h in
      (ltb-false (length s) (4 * n) z.0, not-false r z.1, eqb-true (last_of 0 (ends_of n s)) (length s - 4 * n) (not-false l z.2))

  pub blobs-plain :
      plain_number (Blob text) n s ≡ 0
      → (4 * n ≤ length s) × (rising 0 (length s - 4 * n) (ends_of n s) ≡ true) × (last_of 0 (ends_of n s) ≡ length s - 4 * n)
  blobs-plain h = blobs-lengths (lengths-kept (Blob text) n s h)

  -- what is laid out alike has the same rules of lengths and ends
  as-blobs : lengths_number blob n s ≡ lengths_number (Blob text) n s
  unfolding lengths_number
  as-blobs = refl

  pub ends-broken : {r : ℕ} → r ≡ lengths_number blob n s → (r ≡ 0 → ⊥) → r ≡ plain_number (Blob text) n s
  ends-broken e h = lengths-broken (Blob text) n s (e ∙ as-blobs) h

  module _ (z : 0 ≡ lengths_number blob n s) where
    pub bytes-open : text ≡ false → 0 ≡ plain_number (Blob text) n s
    unfolding all_text
    bytes-open e = sym (all-text (Blob text) n s (sym (z ∙ as-blobs)) (rw e))

    module _ (e : text ≡ true) where
      pub strings-open : true ≡ all_text string n s → 0 ≡ plain_number (Blob text) n s
      strings-open t = sym (all-text (Blob text) n s (sym (z ∙ as-blobs)) (ap (λ (b : Bool). all_text (Blob b) n s) e ∙ sym t))

      pub strings-broken : false ≡ all_text string n s → TEXT ≡ plain_number (Blob text) n s
      strings-broken t = sym (not-text (Blob text) n s (sym (z ∙ as-blobs)) (ap (λ (b : Bool). all_text (Blob b) n s) e ∙ sym t))

pub lengths-least : (k : Kind) (n : ℕ) (s : List ℕ) → lengths_number k n s ≡ 0 → least_bytes k n ≤ length s
unfolding least_bytes lengths_number
lengths-least (Fixed p) n s h = omega (arith, same_length (length s) (n * width_of p) h)
lengths-least (Char w) n s h = omega (arith, same_length (length s) (n * w) h)
lengths-least (Blob text) n s h = (blobs-lengths text n s h).0

pub plain-least : (k : Kind) (n : ℕ) (s : List ℕ) → plain_number k n s ≡ 0 → least_bytes k n ≤ length s
plain-least k n s h = lengths-least k n s (lengths-kept k n s h)

-- ends that rise from where item i starts on are good one by one
risen :
    (s : List ℕ) (room n i before : ℕ) → before ≡ start_at s i → rising before room (map (end_at s) (places n i)) ≡ true → (k : ℕ) → k < n
    → leb (start_at s (i + k)) (end_at s (i + k)) && leb (end_at s (i + k)) room ≡ true
unfolding places rising start_at
risen s room zero i before e r k h = absurd (omega arith)
risen s room (suc n) i before e r zero h =
    let all = rising (end_at s i) room (map (end_at s) (places n (suc i))) in
    rw (add-zero, ← e) ((and-eq-true_iff (leb before (end_at s i) && leb (end_at s i) room) all).0 r).0
risen s room (suc n) i before e r (suc k) h =
    let all = rising (end_at s i) room (map (end_at s) (places n (suc i))) in
    let q : suc i + k ≡ i + suc k = omega arith in
    rw q at (risen s room n (suc i) (end_at s i) refl ((and-eq-true_iff (leb before (end_at s i) && leb (end_at s i) room) all).0 r).1 k (omega arith))

pub lengths-good : (k : Kind) (n : ℕ) (s : List ℕ) → lengths_number k n s ≡ 0 → (i : ℕ) → i < n → ends_good k n s i ≡ true
unfolding ends_good ends_of start_at
lengths-good (Fixed p) n s h i l = refl
lengths-good (Char w) n s h i l = refl
lengths-good (Blob text) n s h i l = rw zero-add at (risen s (length s - 4 * n) n 0 0 refl (blobs-lengths text n s h).1 i l)

pub plain-good : (k : Kind) (n : ℕ) (s : List ℕ) → plain_number k n s ≡ 0 → (i : ℕ) → i < n → ends_good k n s i ≡ true
plain-good k n s h i l = lengths-good k n s (lengths-kept k n s h) i l
