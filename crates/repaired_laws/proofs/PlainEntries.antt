-- The entries of rows that are each null or a row of a sound plain block: they are no more than the block's items, and their plain block is no longer.
-- Assumes nothing.
use Prim.Native.Nat.{ℕ, zero, suc, ◌+◌, ◌*◌, ◌≤◌, ◌<◌}
use native.Mathlib.Omega.{arith}
use mathlib.Core.Bool.{Bool}
use mathlib.Core.List.{List, map}
use mathlib.Core.Path.{◌≡◌, refl, sym, ap, ◌∙◌}
use lib.ListN.{length, length-append, length-map}
use Rattle.encode.specs.Bytes.{little}
use Rattle.encode.specs.Kinds.{width_of}
use Rattle.encode.specs.declared.Kind.{Kind}
use Rattle.encode.specs.declared.Kind.TheVariants.{Fixed, Char, Blob}
use Rattle.plain.specs.Each.{Each}
use Rattle.plain.specs.Rows.{Row}
use Rattle.plain.specs.Plain.{joined, places, item_of, ends_from, plain_of, plain_row, plain_number}
use Rattle.plain.proofs.Each.{Wide, all-each, length-joined, fixed-wide, char-wide}
use Rattle.plain.proofs.Ends.{length-ends}
use Rattle.plain.proofs.Numbers.{fixed_plain, char-plain}
use Rattle.plain.proofs.Places.{length_over}
use Rattle.dict.specs.Dictionary.{entries_of}
use Rattle.block_laws.proofs.Plains.{Fits}
use Rattle.repaired_laws.proofs.FewerEntries.{NullOrOneOf, entries-within, entries-fewer}
use Rattle.repaired_laws.proofs.SoundItems.{char-fits, blobs-within}

-- a fact of what a function gives at each place below n
each-place : (P : Row → Type 0) (f : ℕ → Row) (n : ℕ) → ((j : ℕ) → j < n → P (f j)) → (m i : ℕ) → i + m ≤ n → Each P (map f (places m i))
unfolding places
each-place P f n h zero i l = tt
each-place P f n h (suc m) i l = (h i (omega arith), each-place P f n h m (suc i) (omega arith))

-- the plain block of blobs: an end of four bytes each, and the data
pub blobs-length : (text : Bool) (rows : List Row) → length (plain_of (Blob text) rows) ≡ 4 * length rows + length (joined (item_of (Blob text)) rows)
unfolding plain_of
blobs-length text rows =
    let ends : List ℕ = ends_from 0 (map (item_of (Blob text)) rows) in
    let many : length ends ≡ length rows = length-ends 0 (map (item_of (Blob text)) rows) ∙ length-map rows (item_of (Blob text)) in
    let fours : length (joined (little 4) ends) ≡ length ends * 4 = length-joined (little 4) 4 ends (all-each (Wide (little 4) 4) (λ e. refl) ends) in
    omega (arith, length-append (joined (little 4) ends) (joined (item_of (Blob text)) rows))

-- ---- the rows of a sound plain block of n items
abbrev pub rows_in : Kind → ℕ → List ℕ → List Row
rows_in k n s = map (plain_row k n s) (places n 0)

module _ (rows : List Row) where
  pub no-more-entries : (k : Kind) (n : ℕ) (s : List ℕ) → Each (NullOrOneOf (rows_in k n s)) rows → length (entries_of rows) ≤ n
  no-more-entries k n s h = omega (arith, entries-fewer rows (rows_in k n s) h, length_over (plain_row k n s) n 0)

  pub no-longer-entries :
      (k : Kind) (n : ℕ) (s : List ℕ) → plain_number k n s ≡ 0 → Each (NullOrOneOf (rows_in k n s)) rows → length (plain_of k (entries_of rows)) ≤ length s
  unfolding plain_of
  no-longer-entries (Fixed p) n s z h =
      let ys : List Row = rows_in (Fixed p) n s in
      let whole : length (joined (item_of (Fixed p)) ys) ≡ length s
      = length-joined (item_of (Fixed p)) (width_of p) ys (fixed-wide p ys)
      ∙ ap (λ (m : ℕ). m * width_of p) (length_over (plain_row (Fixed p) n s) n 0)
      ∙ sym (fixed_plain p n s z) in
      omega (arith, entries-within (item_of (Fixed p)) rows ys h)
  no-longer-entries (Char w) n s z h =
      let ys : List Row = rows_in (Char w) n s in
      let fit : Each (Fits (Char w)) ys = each-place (Fits (Char w)) (plain_row (Char w) n s) n (char-fits w n s z) n 0 (omega arith) in
      let whole : length (joined (item_of (Char w)) ys) ≡ length s
      = length-joined (item_of (Char w)) w ys (char-wide w ys fit)
      ∙ ap (λ (m : ℕ). m * w) (length_over (plain_row (Char w) n s) n 0)
      ∙ sym (char-plain w n s z) in
      omega (arith, entries-within (item_of (Char w)) rows ys h)
  no-longer-entries (Blob text) n s z h =
      omega (
        arith,
        blobs-length text (entries_of rows),
        no-more-entries (Blob text) n s h,
        entries-within (item_of (Blob text)) rows (rows_in (Blob text) n s) h,
        blobs-within text n s z,
      )
