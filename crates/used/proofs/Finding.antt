-- The first of the items that reads as a row does, by the places that a search goes through, and the place of the row among them; what the
-- searches of each kind ask and say. Assumes nothing.
use Prim.Native.Nat.{ℕ, zero, suc, ◌+◌, ◌-◌, ◌*◌, ◌≤◌, ◌<◌}
use native.Mathlib.Nat.{add-zero, zero-add}
use native.Mathlib.Numerals.{add-one}
use native.Mathlib.Omega.{arith}
use mathlib.Core.Path.{◌≡◌, sym, ap, subst, ◌∙◌}
use mathlib.Core.Bool.{Bool, true, false, cond}
use mathlib.Core.List.{List, map}
use lib.IntN.{ℤ}
use lib.ListN.{length, take, drop}
use Rattle.encode.specs.Kinds.{width_of, blob}
use Rattle.encode.specs.declared.Kind.{Kind}
use Rattle.encode.specs.declared.Kind.TheVariants.{Fixed, Char, Blob}
use Rattle.encode.specs.declared.Primitive.{Primitive}
use Rattle.plain.specs.Rows.{Row, int, bytes, bytes_in, same_bytes, same}
use Rattle.plain.specs.Plain.{places, fixed_at, char_at, start_at, end_at, plain_row, plain_number, least_bytes, ends_good}
use Rattle.plain.proofs.Items.{item_room}
use Rattle.plain.proofs.Numbers.{plain-least, plain-good}
use Rattle.plain.proofs.Ranges.{Lies, least-found, blob-least, blob-good}
use Rattle.dict.specs.Dictionary.{index_of, entry_row}
use Rattle.lookup.specs.First.{first_at, first_value}
use Rattle.used.specs.Used.{plain_rows}

-- an item that is counted from 1 on
pub entry_row_lem : (k : Kind) (n : ℕ) (items : List ℕ) (slot : ℕ) → 0 < slot → entry_row k n items slot ≡ plain_row k n items (slot - 1)
unfolding entry_row
entry_row_lem k n items zero h = absurd (omega arith)
entry_row_lem k n items (suc j) h = let e : suc j - 1 ≡ j = omega arith in rw e

-- ---- the first place at which a row is the same is its place among the rows there
first-index : (f : ℕ → Row) (r : Row) (n m i : ℕ) → n ≡ i + m → first_at (λ k. same r (f k)) n (places m i) ≡ i + index_of r (map f (places m i))
unfolding first_at index_of places
first-index f r n zero i e = e
first-index f r n (suc m) i e = go (same r (f i)) (first-index f r n m (suc i) (omega arith))
  where
    go : (t : Bool) → first_at (λ k. same r (f k)) n (places m (suc i)) ≡ suc i + index_of r (map f (places m (suc i)))
        → cond t i (first_at (λ k. same r (f k)) n (places m (suc i))) ≡ i + cond t 0 (suc (index_of r (map f (places m (suc i)))))
    go true h = sym (add-zero i)
    go false h = omega arith

pub first_found : (k : Kind) (n : ℕ) (items : List ℕ) (r : Row) → first_at (λ j. same r (plain_row k n items j)) n (places n 0) ≡ index_of r (plain_rows k n items)
first_found k n items r = first-index (plain_row k n items) r n n 0 (omega arith) ∙ zero-add (index_of r (plain_rows k n items))

-- ---- items of bytes, of which a test looked at one
module _ (xs : List ℕ) {r t : Bool} where
  pub char-told : (w n : ℕ) (items : List ℕ) (i : ℕ) → r ≡ same_bytes xs (char_at w items i) → r ≡ t → same (bytes xs) (plain_row (Char w) n items i) ≡ t
  unfolding same plain_row
  char-told w n items i q h = sym q ∙ h

  pub blob-told : (n : ℕ) (items : List ℕ) (i from len : ℕ) → Lies blob n items i from len → r ≡ same_bytes xs (take len (drop from items)) → r ≡ t
      → same (bytes xs) (plain_row blob n items i) ≡ t
  unfolding same plain_row bytes_in
  blob-told n items i from len l q h = sym (q ∙ ap (same_bytes xs) l.1) ∙ h

-- a blob item starts where the one before it ends
pub start-next : (s : List ℕ) (i : ℕ) → end_at s i ≡ start_at s (i + 1)
unfolding start_at
start-next s i = rw add-one

-- ---- char, blob and string, which a match found
module _ {k : Kind} (n : ℕ) (items : List ℕ) (sound : plain_number k n items ≡ 0) where
  pub chars-there : {w : ℕ} → k ≡ Char w → least_bytes (Char w) n ≤ length items
  chars-there e = least-found e n items (plain-least k n items sound)

  pub blobs-there : {text : Bool} → k ≡ Blob text → least_bytes blob n ≤ length items
  blobs-there e = blob-least e n items (plain-least k n items sound)

  pub blobs-good : {text : Bool} → k ≡ Blob text → (i : ℕ) → i < n → ends_good blob n items i ≡ true
  blobs-good e i h = blob-good e n items i (plain-good k n items sound i h)

-- the bytes that were looked for are those of an item that is counted from 1 on
module _ {k : Kind} (n : ℕ) (items : List ℕ) (m : ℕ) (others : List ℕ) (slot : ℕ) (some : 0 < slot) (from len : ℕ) {r : ℕ} where
  pub char-found : {w : ℕ} → k ≡ Char w → Lies (Char w) m others (slot - 1) from len → r ≡ index_of (bytes (take len (drop from others))) (plain_rows (Char w) n items)
      → r ≡ index_of (entry_row k m others slot) (plain_rows k n items)
  unfolding plain_row bytes_in
  char-found {w} e l q =
      subst (λ (j : Kind). r ≡ index_of (entry_row j m others slot) (plain_rows j n items)) (sym e)
      (q ∙ ap (λ (x : Row). index_of x (plain_rows (Char w) n items)) (ap bytes l.1 ∙ sym (entry_row_lem (Char w) m others slot some)))

  pub blob-found : {text : Bool} → k ≡ Blob text → Lies blob m others (slot - 1) from len → r ≡ index_of (bytes (take len (drop from others))) (plain_rows blob n items)
      → r ≡ index_of (entry_row k m others slot) (plain_rows k n items)
  unfolding plain_row bytes_in
  blob-found {text} e l q =
      subst (λ (j : Kind). r ≡ index_of (entry_row j m others slot) (plain_rows j n items)) (sym e)
      (q ∙ ap (λ (x : Row). index_of x (plain_rows (Blob text) n items)) (ap bytes l.1 ∙ sym (entry_row_lem (Blob text) m others slot some)))

-- ---- a fixed kind, which a match found
module _ {k : Kind} {p : Primitive} (e : k ≡ Fixed p) where
  pub values-there : (n : ℕ) (items : List ℕ) → plain_number k n items ≡ 0 → n * width_of p ≤ length items
  unfolding least_bytes
  values-there n items sound = subst (λ (j : Kind). least_bytes j n ≤ length items) e (plain-least k n items sound)

  pub value_there : (n : ℕ) (items : List ℕ) (slot : ℕ) → plain_number k n items ≡ 0 → 0 < slot → slot ≤ n → (slot - 1) * width_of p + width_of p ≤ length items
  value_there n items slot sound some inside = item_room (slot - 1) n (width_of p) (length items) (omega arith) (values-there n items sound)

  -- v is the value that the code reads
  pub value_found : (n : ℕ) (items : List ℕ) (m : ℕ) (others : List ℕ) (slot : ℕ) {v : ℤ} {r : ℕ} → 0 < slot → v ≡ fixed_at p others (slot - 1)
      → r ≡ first_value p items n v → r ≡ index_of (entry_row k m others slot) (plain_rows k n items)
  unfolding first_value same plain_row
  value_found n items m others slot {v} {r} some is q =
      subst (λ (j : Kind). r ≡ index_of (entry_row j m others slot) (plain_rows j n items)) (sym e)
      (q ∙ first_found (Fixed p) n items (int v)
      ∙ ap (λ (x : Row). index_of x (plain_rows (Fixed p) n items)) (ap int is ∙ sym (entry_row_lem (Fixed p) m others slot some)))
