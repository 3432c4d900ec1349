-- The first item that reads as item j does, and what its mark says of the entries that are used: unmarked, its row is new, and marking it makes it
-- one of them. Assumes nothing.
use Prim.Native.Nat.{ℕ, ◌-◌, ◌≤◌, ◌<◌}
use native.Mathlib.Nat.{zero-add}
use native.Mathlib.Omega.{arith}
use mathlib.Core.Path.{◌≡◌, refl, sym, ap, ◌∙◌}
use mathlib.Core.Bool.{Bool, true, false, cond, not, ◌||◌, or-false, or-true}
use mathlib.Core.List.{List}
use lib.Dec.{eqb}
use lib.ListN.{length, get_or}
use borrow.Author.Tests.{eqb-true, eqb-false}
use Rattle.encode.specs.declared.Kind.{Kind}
use Rattle.encode.specs.declared.Kind.TheVariants.{Fixed, Char, Blob}
use Rattle.plain.specs.Rows.{Row, null, same}
use Rattle.plain.specs.Plain.{plain_row}
use Rattle.plain.proofs.Places.{length_over, get_d_over}
use Rattle.plain.proofs.Same.{same-equal, same_self}
use Rattle.nullable.specs.Nullable.{bit_at}
use Rattle.dict.specs.Dictionary.{index_of, with_entry, entry_row}
use Rattle.dict.proofs.Entries.{index-row, index-first, among, among-last, with-old, with-new}
use Rattle.used.specs.Used.{plain_rows, first_like, is_new, Firsts, Used}
use Rattle.used.proofs.Finding.{entry_row_lem}

pub some-row : (k : Kind) (n : ℕ) (items : List ℕ) (j : ℕ) → plain_row k n items j ≡ null → ⊥
unfolding plain_row
some-row (Fixed p) n items j e = let z : ◌≡◌ {A = ℕ} 0 1 = cc in omega arith
some-row (Char w) n items j e = let z : ◌≡◌ {A = ℕ} 0 1 = cc in omega arith
some-row (Blob text) n items j e = let z : ◌≡◌ {A = ℕ} 0 1 = cc in omega arith

-- among the entries after one more row are those before it and the row
pub among-with : (r : Row) (es : List Row) (x : Row) → (x ≡ null → ⊥) → among r (with_entry es x) ≡ (among r es || same r x)
among-with r es x z = go (among x es) refl
  where
    old : (t : Bool) → same r x ≡ t → among x es ≡ true → among r es ≡ (among r es || t)
    old true q h = ap (λ (y : Row). among y es) (same-equal r x q) ∙ h ∙ sym (or-true (among r es))
    old false q h = sym (or-false (among r es))

    go : (t : Bool) → among x es ≡ t → among r (with_entry es x) ≡ (among r es || same r x)
    go true h = rw (with-old es x h) (old (same r x) refl h)
    go false h = rw (with-new es x z h) (among-last r es x)

module _ (k : Kind) (n : ℕ) (items : List ℕ) where
  -- ---- the first item of its like
  row-at : (j : ℕ) → j < n → get_or (plain_rows k n items) j null ≡ plain_row k n items j
  row-at j h = get_d_over (plain_row k n items) n 0 j null h ∙ ap (plain_row k n items) (zero-add j)

  all-rows : length (plain_rows k n items) ≡ n
  all-rows = length_over (plain_row k n items) n 0

  first-before : (j : ℕ) → j < n → first_like k n items j ≤ j
  first-before j h = let l = all-rows in index-first (plain_row k n items j) (plain_rows k n items) j (omega arith) (row-at j h)

  -- it reads the same, and so it is the first of its like too
  first-reads-same : (j : ℕ) → j < n → plain_row k n items (first_like k n items j) ≡ plain_row k n items j
  first-reads-same j h =
      let l = all-rows in
      let b = first-before j h in
      sym (row-at (first_like k n items j) (omega arith)) ∙ index-row (plain_row k n items j) (plain_rows k n items) (omega arith)

  first-own : (j : ℕ) → j < n → first_like k n items (first_like k n items j) ≡ first_like k n items j
  first-own j h = ap (λ (r : Row). index_of r (plain_rows k n items)) (first-reads-same j h)

  -- ---- what its mark says
  module _ {bits : List ℕ} {es : List Row} (u : Used k n items bits es) (j : ℕ) (h : j < n) where
    mark-says : eqb (bit_at bits (first_like k n items j)) 1 ≡ among (plain_row k n items j) es
    mark-says =
        let b = first-before j h in
        u.marked (first_like k n items j) (omega arith) (first-own j h) ∙ ap (λ (r : Row). among r es) (first-reads-same j h)

    -- another first of its like reads otherwise
    others_apart : (i : ℕ) → first_like k n items i ≡ i → (first_like k n items j ≡ i → ⊥) → same (plain_row k n items i) (plain_row k n items j) ≡ false
    others_apart i own d = go (same (plain_row k n items i) (plain_row k n items j)) refl
      where
        go : (t : Bool) → same (plain_row k n items i) (plain_row k n items j) ≡ t → t ≡ false
        go true q =
            let e : plain_row k n items i ≡ plain_row k n items j = same-equal (plain_row k n items i) (plain_row k n items j) q in
            absurd (d (ap (λ (r : Row). index_of r (plain_rows k n items)) (sym e) ∙ own))
        go false q = refl

    -- once it is marked, marked before or not
    module _ (bits' : List ℕ) (long : length bits' ≡ length bits)
        (set : (i : ℕ) → bit_at bits' i ≡ cond (eqb (first_like k n items j) i) 1 (bit_at bits i)) where
      firsts-now : Firsts k n items bits'
      firsts-now = record { long = omega (arith, u.firsts.long); first = λ i l b. go i l (eqb (first_like k n items j) i) refl (sym (set i) ∙ b) }
        where
          go : (i : ℕ) → i < n → (t : Bool) → eqb (first_like k n items j) i ≡ t → cond t 1 (bit_at bits i) ≡ 1 → first_like k n items i ≡ i
          go i l true q b =
              let e : first_like k n items j ≡ i = eqb-true (first_like k n items j) i q in
              ap (first_like k n items) (sym e) ∙ first-own j h ∙ e
          go i l false q b = u.firsts.first i l b

      marks-now : (i : ℕ) → i < n → first_like k n items i ≡ i → eqb (bit_at bits' i) 1 ≡ among (plain_row k n items i) (with_entry es (plain_row k n items j))
      marks-now i l own =
          ap (λ (b : ℕ). eqb b 1) (set i)
          ∙ go (eqb (first_like k n items j) i) refl
          ∙ sym (among-with (plain_row k n items i) es (plain_row k n items j) (some-row k n items j))
        where
          go : (t : Bool) → eqb (first_like k n items j) i ≡ t
              → eqb (cond t 1 (bit_at bits i)) 1 ≡ (among (plain_row k n items i) es || same (plain_row k n items i) (plain_row k n items j))
          go true q =
              let e : plain_row k n items i ≡ plain_row k n items j = ap (plain_row k n items) (sym (eqb-true (first_like k n items j) i q)) ∙ first-reads-same j h in
              sym (ap (λ (t : Bool). among (plain_row k n items i) es || t) (ap (same (plain_row k n items i)) (sym e) ∙ same_self (plain_row k n items i))
              ∙ or-true (among (plain_row k n items i) es))
          go false q =
              u.marked i l own
              ∙ sym (ap (λ (t : Bool). among (plain_row k n items i) es || t) (others_apart i own (eqb-false (first_like k n items j) i q))
              ∙ or-false (among (plain_row k n items i) es))

      marked-now : Used k n items bits' (with_entry es (plain_row k n items j))
      marked-now = record { firsts = firsts-now; marked = marks-now }

  -- ---- an item that is counted from 1 on
  module _ (slot : ℕ) (some : 0 < slot) (inside : slot ≤ n) where
    like : index_of (entry_row k n items slot) (plain_rows k n items) ≡ first_like k n items (slot - 1)
    like = ap (λ (r : Row). index_of r (plain_rows k n items)) (entry_row_lem k n items slot some)

    pub like-inside : index_of (entry_row k n items slot) (plain_rows k n items) < n
    like-inside = let b = first-before (slot - 1) (omega arith) in let e = like in omega arith

    -- marked, it is the first of its like
    pub own_like : {bits : List ℕ} → Firsts k n items bits → bit_at bits (slot - 1) ≡ 1 → slot - 1 ≡ index_of (entry_row k n items slot) (plain_rows k n items)
    own_like f m = sym (like ∙ f.first (slot - 1) (omega arith) m)

    -- what the mark of the first of its like says, and what setting it does
    module _ {bits : List ℕ} {es : List Row} (u : Used k n items bits es) {name : ℕ} (named : name ≡ index_of (entry_row k n items slot) (plain_rows k n items)) where
      -- whether it is unmarked is whether its row is new
      pub used-new : not (eqb (bit_at bits name) 1) ≡ is_new es (entry_row k n items slot)
      unfolding is_new
      used-new = rw (named, entry_row_lem k n items slot some) (ap not (mark-says u (slot - 1) (omega arith)))

      -- marked now, whether it was before or not
      pub used-after : (bits' : List ℕ) → length bits' ≡ length bits → ((i : ℕ) → bit_at bits' i ≡ cond (eqb name i) 1 (bit_at bits i))
          → Used k n items bits' (with_entry es (entry_row k n items slot))
      used-after bits' long set =
          rw (entry_row_lem k n items slot some)
          (marked-now u (slot - 1) (omega arith) bits' long (λ i. set i ∙ ap (λ (f : ℕ). cond (eqb f i) 1 (bit_at bits i)) (named ∙ like)))
