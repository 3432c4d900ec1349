-- Where the bytes of an item lie, for each kind that a match found, and what the rule of the ends says of one item. Assumes nothing.
use mathlib.Core.Path.{◌≡◌, sym, subst}
use mathlib.Core.Bool.{Bool, true, false, ◌&&◌, and-eq-true_iff}
use mathlib.Core.List.{List}
use Prim.Native.Nat.{ℕ, ◌+◌, ◌-◌, ◌*◌, ◌≤◌, ◌<◌}
use native.Mathlib.Omega.{arith}
use borrow.Author.Tests.{leb-true, le-leb, lt-leb}
use lib.Dec.{leb}
use lib.ListN.{length, take, drop}
use Rattle.encode.specs.declared.Kind.{Kind}
use Rattle.encode.specs.Kinds.{blob}
use Rattle.encode.specs.declared.Kind.TheVariants.{Char, Blob}
use Rattle.plain.specs.Rows.{bytes_in}
use Rattle.plain.specs.Plain.{end_at, start_at, char_at, blob_at, plain_row, least_bytes, ends_good}
use Rattle.plain.proofs.Chars.{take-char}
use Rattle.plain.proofs.Items.{item_room}

-- the bytes of item i are those from a place on, and are within the block
abbrev pub Lies : Kind → ℕ → List ℕ → ℕ → ℕ → ℕ → Type 0
Lies k n s i from len = (from + len ≤ length s) × (take len (drop from s) ≡ bytes_in (plain_row k n s i))

-- what is known to hold, where a match found the kind
module _ {k j : Kind} (e : k ≡ j) (n : ℕ) (s : List ℕ) where
  pub least-found : least_bytes k n ≤ length s → least_bytes j n ≤ length s
  least-found h = subst (λ (q : Kind). least_bytes q n ≤ length s) e h

-- blob and string are laid out alike
module _ {k : Kind} {text : Bool} (e : k ≡ Blob text) (n : ℕ) (s : List ℕ) where
  pub blob-least : least_bytes k n ≤ length s → least_bytes blob n ≤ length s
  unfolding least_bytes
  blob-least h = subst (λ (j : Kind). least_bytes j n ≤ length s) e h

  pub blob-good : (i : ℕ) → ends_good k n s i ≡ true → ends_good blob n s i ≡ true
  unfolding ends_good
  blob-good i h = subst (λ (j : Kind). ends_good j n s i ≡ true) e h

module _ (w n : ℕ) (s : List ℕ) (i : ℕ) (least : least_bytes (Char w) n ≤ length s) (h : i < n) where
  pub char-room : i * w + w ≤ length s
  unfolding least_bytes
  char-room = item_room i n w (length s) h least

  pub char-lies : (r : ℕ) → r ≡ length (char_at w s i) → r ≤ w → Lies (Char w) n s i (i * w) r
  unfolding plain_row bytes_in
  char-lies r c l = let b : i * w + w ≤ length s = char-room in (omega arith, rw c (take-char w s i))

module _ {k : Kind} {text : Bool} (n : ℕ) (s : List ℕ) (e : k ≡ Blob text) (least : least_bytes k n ≤ length s) where
  pub blob-room : 4 * n ≤ length s
  unfolding least_bytes
  blob-room = subst (λ (j : Kind). least_bytes j n ≤ length s) e least

  -- a and b are the start and the end that the code reads
  module _ (i : ℕ) {a b : ℕ} (start : a ≡ start_at s i) (end : b ≡ end_at s i) where
    pub ends-back : b < a → false ≡ ends_good k n s i
    unfolding ends_good
    ends-back l = subst (λ (j : Kind). false ≡ ends_good j n s i) (sym e) (rw (← start, ← end) (simp (lt-leb a b l)))

    pub ends-forth : a ≤ b → leb b (length s - 4 * n) ≡ ends_good k n s i
    unfolding ends_good
    ends-forth l = subst (λ (j : Kind). leb b (length s - 4 * n) ≡ ends_good j n s i) (sym e) (rw (← start, ← end) (simp (le-leb a b l)))

    module _ (good : ends_good k n s i ≡ true) where
      both : leb a b && leb b (length s - 4 * n) ≡ true
      unfolding ends_good
      both = rw (start, end) (subst (λ (j : Kind). ends_good j n s i ≡ true) e good)

      pub blob-forth : a ≤ b
      blob-forth = leb-true a b ((and-eq-true_iff (leb a b) (leb b (length s - 4 * n))).0 both).0

      pub blob-within : b ≤ length s - 4 * n
      blob-within = leb-true b (length s - 4 * n) ((and-eq-true_iff (leb a b) (leb b (length s - 4 * n))).0 both).1

      pub blob-lies : Lies k n s i (4 * n + a) (b - a)
      unfolding plain_row bytes_in blob_at
      blob-lies =
          let r : 4 * n ≤ length s = blob-room in
          let f : a ≤ b = blob-forth in
          let w : b ≤ length s - 4 * n = blob-within in
          subst (λ (j : Kind). Lies j n s i (4 * n + a) (b - a)) (sym e) (omega arith, rw (start, end))
