-- A run's key: what it counts from null's, and its four bytes. Assumes nothing.
use Prim.Native.Nat.{ℕ, suc, ◌+◌, ◌-◌, ◌*◌, ◌%◌, ◌≤◌, ◌<◌}
use native.Mathlib.Nat.{zero-add}
use native.Mathlib.Numerals.{add-one}
use native.Mathlib.Omega.{arith}
use mathlib.Core.Bool.{Bool, true, cond}
use mathlib.Core.List.{List, [], ◌∷◌, ◌++◌, map, reverse}
use mathlib.Core.Path.{◌≡◌, refl, sym, ap, ◌∙◌}
use lib.IntN.{pos, negsuc}
use lib.ListN.{length, drop, length-map}
use borrow.Author.Tests.{lt-ltb}
use mir.Syntax.{w64}
use mir.Val.{of_z}
use Rattle.encode.specs.Bytes.{little}
use Rattle.encode.specs.declared.Kind.{Kind}
use Rattle.encode.specs.declared.Kind.TheVariants.{Fixed, Char, Blob}
use Rattle.encode.specs.declared.Primitive.TheVariants.{I32}
use Rattle.encode.proofs.RoundTrip.{interval-parts}
use Rattle.plain.specs.Rows.{Row, null, int, bytes, int_in, same}
use Rattle.plain.specs.Plain.{joined, item_of, plain_of, plain_row}
use Rattle.plain.proofs.Each.{length-joined, fixed-wide}
use Rattle.plain.proofs.Places.{length_over, get_d_over}
use Rattle.plain.proofs.Same.{same-equal}
use Rattle.rle.specs.RunLength.{Run, runs_of}
use Rattle.dict.specs.Dictionary.{i32, index_of, entries_of, null_key, entry_key, key_of, entry_row}
use Rattle.dict.proofs.Entries.{index-most}
use Rattle.used.specs.Used.{plain_rows}
use Rattle.used.proofs.Finding.{entry_row_lem}
use Rattle.repaired_keys.specs.Keys.{Apart, key_slot, key_bytes}

-- ---- what a key counts from null's
row-slot : (es : List Row) (k : Kind) (n : ℕ) (items : List ℕ) (i : ℕ) → key_slot es (plain_row k n items i) ≡ suc (index_of (plain_row k n items i) es)
unfolding key_slot plain_row
row-slot es (Fixed p) n items i = refl
row-slot es (Char w) n items i = refl
row-slot es (Blob text) n items i = refl

module _ (k : Kind) (entries : ℕ) (items : List ℕ) (kept : ℕ) (written : List ℕ) where
  abbrev Slotted : ℕ → ℕ → Type 0
  Slotted slot r = (r ≡ key_slot (plain_rows k kept written) (entry_row k entries items slot)) × (r ≤ kept + 1)

  pub null-slotted : {slot : ℕ} → slot ≡ 0 → Slotted slot 0
  unfolding key_slot entry_row
  null-slotted e = rw e (refl, omega arith)

  module _ (slot : ℕ) {i : ℕ} (is : i ≡ index_of (entry_row k entries items slot) (plain_rows k kept written)) where
    pub index-small : i ≤ kept
    index-small = omega (arith, is, index-most (entry_row k entries items slot) (plain_rows k kept written), length_over (plain_row k kept written) kept 0)

    pub entry-slotted : 0 < slot → Slotted slot (i + 1)
    entry-slotted some = (
      add-one i ∙ ap suc is ∙ rw (entry_row_lem k entries items slot some) (sym (row-slot (plain_rows k kept written) k entries items (slot - 1))),
      omega (arith, index-small),
    )

  -- entry i of those that are kept, from 0 on, which was compared
  module _ (apart : Apart (plain_rows k kept written)) {i : ℕ} (inside : i < kept) where
    own-place : index_of (entry_row k kept written (i + 1)) (plain_rows k kept written) ≡ i
    own-place =
        let e : i + 1 - 1 ≡ i = omega arith in
        ap (λ (r : Row). index_of r (plain_rows k kept written))
        (entry_row_lem k kept written (i + 1) (omega arith)
        ∙ ap (plain_row k kept written) (e ∙ sym (zero-add i))
        ∙ sym (get_d_over (plain_row k kept written) kept 0 i null inside))
        ∙ apart i (omega (arith, length_over (plain_row k kept written) kept 0))

    pub next-slotted : (slot : ℕ) → 0 < slot → {t : Bool} → t ≡ same (entry_row k entries items slot) (entry_row k kept written (i + 1)) → t ≡ true
        → Slotted slot (i + 1)
    next-slotted slot some q h =
        let e = same-equal (entry_row k entries items slot) (entry_row k kept written (i + 1)) (sym q ∙ h) in
        entry-slotted slot (sym (ap (λ (r : Row). index_of r (plain_rows k kept written)) e ∙ own-place)) some

-- ---- its bytes
low-four : (n : ℕ) → little 4 n ≡ little 4 (n % 4294967296)
low-four n = ap (λ (l : List ℕ). reverse (drop 4 l)) (interval-parts n)

entry-bits : (i : ℕ) → i < 2147483647 → of_z w64 (entry_key i) % 4294967296 ≡ 2147483648 + suc i
unfolding entry_key
entry-bits i h =
    ap (λ (t : Bool). of_z w64 (cond t (negsuc (2147483647 - suc i)) (pos (i - 2147483647))) % 4294967296) (lt-ltb i 2147483647 h)
    ∙ omega arith

entry-item : (i : ℕ) → i < 2147483647 → little 4 (2147483648 + suc i) ≡ item_of i32 (int (entry_key i))
unfolding item_of int_in
entry-item i h = sym (low-four (of_z w64 (entry_key i)) ∙ ap (little 4) (entry-bits i h))

pub key-item : (es : List Row) (r : Row) → key_slot es r ≤ 2147483647 → little 4 (2147483648 + key_slot es r) ≡ item_of i32 (key_of es r)
unfolding key_slot key_of null_key item_of int_in
key-item es null h = refl
key-item es (int v) h = entry-item (index_of (int v) es) (omega arith)
key-item es (bytes bs) h = entry-item (index_of (bytes bs) es) (omega arith)

-- ---- those of all runs
abbrev pub key_item : List Row → Run → List ℕ
key_item es r = item_of i32 (key_of es r.row)

pub joined-map : {A B : Type 0} (f : B → List ℕ) (g : A → B) (xs : List A) → joined f (map g xs) ≡ joined (λ x. f (g x)) xs
unfolding joined
joined-map f g [] = refl
joined-map f g (x ∷ xs) = ap (λ (l : List ℕ). f (g x) ++ l) (joined-map f g xs)

module _ (rows : List Row) where
  pub keys-joined : key_bytes rows ≡ joined (key_item (entries_of rows)) (runs_of rows)
  unfolding key_bytes plain_of
  keys-joined = joined-map (item_of i32) (λ (r : Run). key_of (entries_of rows) r.row) (runs_of rows)

  pub keys-long : length (joined (key_item (entries_of rows)) (runs_of rows)) ≡ 4 * length (runs_of rows)
  keys-long =
      let key : Run → Row = λ r. key_of (entries_of rows) r.row in
      ap length (sym (joined-map (item_of i32) key (runs_of rows)))
      ∙ length-joined (item_of i32) 4 (map key (runs_of rows)) (fixed-wide I32 (map key (runs_of rows)))
      ∙ omega (arith, length-map (runs_of rows) key)
