-- A dictionary block with a key that names no entry is refused, and a null that is read of a sound one comes from null's own key. Assumes nothing.
use Rattle.std.specs.Prelude.{Option, Some}
use Prim.Native.Nat.{ℕ, zero, suc, ◌-◌, ◌≤◌, ◌<◌}
use native.Mathlib.Nat.{zero-add}
use native.Mathlib.Omega.{arith}
use mathlib.Core.Bool.{Bool, true, false, cond}
use mathlib.Core.List.{List, [], ◌∷◌, map}
use mathlib.Core.Path.{◌≡◌, refl, sym, ap, ◌∙◌}
use lib.Dec.{ltb}
use lib.IntN.{ℤ, pos, negsuc, ◌+ℤ◌, nat_abs}
use lib.ListN.{length, get_or, get_or-map, length-map}
use borrow.Author.Tests.{ltb-false}
use Rattle.encode.specs.declared.Kind.{Kind}
use Rattle.encode.specs.declared.Kind.TheVariants.{Fixed, Char, Blob}
use Rattle.plain.specs.Rows.{Row, null}
use Rattle.plain.specs.Plain.{plain_row}
use Rattle.rle.specs.Stepping.{spot}
use Rattle.rle.proofs.Steps.{steps-length}
use Rattle.rle.proofs.Whole.{whole-steps}
use Rattle.dict.specs.Dictionary.{null_key, slot_at, entry_row}
use Rattle.dict.proofs.Slots.{known_at}
use Rattle.format.specs.declared.Encoding.TheVariants.{Dictionary}
use Rattle.format.specs.declared.Column.{Column}
use Rattle.format.specs.Blocks.{column_of, column}
use Rattle.format.specs.Opening.{column_number, open_number, head_of, row_at, counts_in, places_of, rows_of}
use Rattle.format.proofs.Sound.{column-sound, keys-sound}
use Rattle.block_laws.specs.Keys.{keys_in, key_at}

-- an element that is there, whatever would stand in for one that isn't
any-default : {A : Type 0} (l : List A) (i : ℕ) (d d' : A) → i < length l → get_or l i d ≡ get_or l i d'
any-default [] i d d' h = absurd (omega arith)
any-default (x ∷ l) zero d d' h = refl
any-default (x ∷ l) (suc i) d d' h = any-default l i d d' (omega arith)

-- ---- a plain row is never null
never : {A : Type 0} → ◌≡◌ {A = ℕ} 0 1 → A
never z = absurd (omega arith)

plain-there : (k : Kind) (n : ℕ) (b : List ℕ) (i : ℕ) → plain_row k n b i ≡ null → ⊥
unfolding plain_row
plain-there (Fixed p) n b i e = never cc
plain-there (Char w) n b i e = never cc
plain-there (Blob text) n b i e = never cc

-- and so an entry that is read as null is none
entry-null : (k : Kind) (n : ℕ) (b : List ℕ) (s : ℕ) → entry_row k n b s ≡ null → s ≡ 0
unfolding entry_row
entry-null k n b zero e = refl
entry-null k n b (suc i) e = absurd (plain-there k n b i e)

-- slot 0 is that of null's key alone
slot-zero : (z : ℤ) → nat_abs (z +ℤ pos 2147483648) ≡ 0 → z ≡ null_key
unfolding null_key
slot-zero (pos n) h = absurd (omega arith)
slot-zero (negsuc n) h = go (ltb 2147483648 (suc n)) refl h
  where
    go : (t : Bool) → ltb 2147483648 (suc n) ≡ t
        → nat_abs (cond t (negsuc (suc n - suc 2147483648)) (pos (2147483648 - suc n))) ≡ 0 → negsuc n ≡ negsuc 2147483647
    go true e q = absurd (omega arith)
    go false e q = let l = ltb-false 2147483648 (suc n) e in let m : n ≡ 2147483647 = omega arith in ap negsuc m

module _ (kind encoding width n : ℕ) (b : List ℕ) (k : Kind) (c : column_of kind encoding width ≡ Some (column k Dictionary)) where
  sound : open_number kind encoding width n b ≡ 0 → column_number (Some (column k Dictionary)) n b ≡ 0
  unfolding open_number
  sound h = ap (λ (x : Option Column). column_number x n b) (sym c) ∙ h

  -- In a block that opens, each key is null's or names an entry.
  pub keys-name-entries :
      open_number kind encoding width n b ≡ 0 → (i : ℕ) → i < (head_of Dictionary b).runs → slot_at (keys_in b) i ≤ (head_of Dictionary b).entries
  keys-name-entries h i l =
      let s = keys-sound k n b (column-sound k Dictionary n b (sound h)).rules in
      rw zero-add at (known_at (head_of Dictionary b).entries (keys_in b) (head_of Dictionary b).runs 0 i s.all_known l)

  -- A block with one key that doesn't is refused.
  pub unknown-key-refused :
      (i : ℕ) → i < (head_of Dictionary b).runs → (head_of Dictionary b).entries < slot_at (keys_in b) i → open_number kind encoding width n b ≡ 0 → ⊥
  unknown-key-refused i l u h = omega (arith, keys-name-entries h i l)

  row_of : (i : ℕ) → row_at k Dictionary n (head_of Dictionary b) b i ≡ null → key_at b i ≡ null_key
  unfolding row_at slot_at
  row_of i e = slot-zero (key_at b i) (entry-null k _ _ _ e)

  -- a sound block of n rows has n places
  places-many : open_number kind encoding width n b ≡ 0 → length (places_of Dictionary n (head_of Dictionary b) b) ≡ n
  unfolding places_of counts_in
  places-many h =
      let s = keys-sound k n b (column-sound k Dictionary n b (sound h)).rules in
      let runs : ℕ = (head_of Dictionary b).runs in
      let counts : List ℕ = counts_in Dictionary (head_of Dictionary b) b in
      steps-length runs counts n (spot 0 0 0) (whole-steps runs counts n s.parts.key-runs.sum).1

  -- So no unknown key is read as null: where row j of a sound block is null, the key of the run that it lies in is null's.
  pub unknown-key-never-null :
      open_number kind encoding width n b ≡ 0 → (j : ℕ) → j < n → get_or (rows_of k Dictionary n b) j null ≡ null
      → key_at b (get_or (places_of Dictionary n (head_of Dictionary b) b) j 0) ≡ null_key
  unfolding rows_of
  unknown-key-never-null h j l e =
      let f : ℕ → Row = row_at k Dictionary n (head_of Dictionary b) b in
      let is : List ℕ = places_of Dictionary n (head_of Dictionary b) b in
      let m : j < length (map f is) = omega (arith, length-map is f, places-many h) in
      row_of (get_or is j 0) (sym (get_or-map f is j 0) ∙ any-default (map f is) j (f 0) null m ∙ e)
