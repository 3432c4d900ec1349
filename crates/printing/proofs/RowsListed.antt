-- The reads of a listing: one more, the first that is refused, and that none is refused of a block that was opened. Assumes nothing.
use Prim.Native.Nat.{ℕ, zero, suc, ◌+◌, ◌-◌, ◌≤◌, ◌<◌, min}
use native.Mathlib.Omega.{arith}
use mathlib.Core.Bool.{Bool, true, false, cond}
use mathlib.Core.List.{List, [], ◌∷◌}
use mathlib.Core.Path.{◌≡◌, refl, sym, ap, ◌∙◌}
use lib.Dec.{ltb, eqb}
use lib.IntN.{ℤ}
use lib.ListN.{length, take, drop, length-drop, length-replicate}
use borrow.Author.Tests.{eq-eqb, ne_eqb, ltb-false}
use Rattle.std.specs.Prelude.{Result, Ok, Err, Option, Some, None}
use Rattle.limits.specs.Limits.{MOST_INPUT}
use Rattle.limits.specs.Refusals.{COLUMN, LIMIT, CUT}
use Rattle.encode.specs.declared.Kind.{Kind}
use Rattle.encode.specs.Kinds.{kind_of}
use Rattle.format.specs.declared.Encoding.{Encoding}
use Rattle.format.specs.declared.Column.{Column}
use Rattle.format.specs.Blocks.{with_encoding, column_of, column}
use Rattle.block.specs.declared.Reader.{Reader}
use Rattle.block.specs.declared.Given.{Given}
use Rattle.block.specs.declared.Left.{Left}
use Rattle.block.specs.Reading.{areas, opened, remaining_in, remaining, read}
use Rattle.descriptor.specs.declared.Descriptor.{Descriptor}
use Rattle.descriptor.specs.Descriptor.{descriptor_of, described_opened}
use Rattle.text.specs.Input.{input_opened, block_in}
use Rattle.reading_laws.specs.Calls.{after_all}
use Rattle.reading_laws.proofs.Calls.{found, counts-add-up}
use Rattle.reading_laws.proofs.Consequences.{read-depends-on-the-block-alone}
use Rattle.reading_laws.proofs.RoomForOne.{Holds, row-given}
use Rattle.reading_laws.proofs.RowsLeft.{Stands}
use Rattle.printing.specs.Printing.{areas_for_one, next_row, rows_refused, listed_of, listed}

-- ---- one read: its answer hangs on the room that it is lent, not on what that holds
pub next_row_lem : (r : Reader) (b : List ℕ) (v : ℤ) (f e : ℕ) (bytes : List ℕ) {x : Given}
    → x ≡ (read r b 0 1 (areas (v ∷ []) (f ∷ []) (e ∷ []) bytes)).answer → x ≡ next_row r b (length bytes)
unfolding next_row
next_row_lem r b v f e bytes q =
    q ∙ (read-depends-on-the-block-alone r b (areas (v ∷ []) (f ∷ []) (e ∷ []) bytes) (areas_for_one (length bytes))
    (record { values = refl; flags = refl; ends = refl; bytes = sym (length-replicate (length bytes) 0) }) 0 1).answer

-- ---- one after the other
module _ (n i : ℕ) (r : Reader) (b : List ℕ) (room : ℕ) (left : i < n) {x : Given} (q : x ≡ next_row r b room) where
  one_more : {t : Bool} → eqb x.number 0 ≡ t → rows_refused (n - i) r b room ≡ cond t (rows_refused (n - (i + 1)) x.reader b room) x.number
  unfolding rows_refused
  one_more h = let z : n - i ≡ suc (n - (i + 1)) = omega arith in rw (z, ← h, q)

  row_done : x.number ≡ 0 → rows_refused (n - i) r b room ≡ rows_refused (n - (i + 1)) x.reader b room
  row_done h = one_more (eq-eqb x.number 0 h)

  row-refused : (x.number ≡ 0 → ⊥) → rows_refused (n - i) r b room ≡ x.number
  row-refused h = one_more (ne_eqb x.number 0 h)

all_done : (n i : ℕ) (r : Reader) (b : List ℕ) (room : ℕ) → n ≤ i → rows_refused (n - i) r b room ≡ 0
unfolding rows_refused
all_done n i r b room h = let z : n - i ≡ 0 = omega arith in rw z

-- ---- the loop: of n rows from r₀ on, i are printed, and r is left for the others
pub record Listing (n : ℕ) (r₀ : Reader) (b bytes₀ text₀ bytes text : List ℕ) (r : Reader) (i : ℕ) : Type 0 where
  pub bytes-kept : length bytes ≡ length bytes₀
  pub text-kept : length text ≡ length text₀
  pub whole : rows_refused n r₀ b (length bytes₀) ≡ rows_refused (n - i) r b (length bytes₀)

pub listing_start : (n : ℕ) (r : Reader) (b bytes text : List ℕ) → Listing n r b bytes text bytes text r 0
listing_start n r b bytes text = record {
  bytes-kept = refl;
  text-kept = refl;
  whole = ap (λ (m : ℕ). rows_refused m r b (length bytes)) (omega arith);
}

module _ {n : ℕ} {r₀ : Reader} {b bytes₀ text₀ bytes text : List ℕ} {r : Reader} {i : ℕ} (g : Listing n r₀ b bytes₀ text₀ bytes text r i) where
  module _ (left : i < n) {x : Given} (q : x ≡ next_row r b (length bytes)) where
    next : x ≡ next_row r b (length bytes₀)
    next = q ∙ ap (next_row r b) g.bytes-kept

    pub listing_step : (x.number ≡ 0) → {bytes' text' : List ℕ} → length bytes' ≡ length bytes → length text' ≡ length text
        → Listing n r₀ b bytes₀ text₀ bytes' text' x.reader (i + 1)
    listing_step h k l = record {
      bytes-kept = k ∙ g.bytes-kept;
      text-kept = l ∙ g.text-kept;
      whole = g.whole ∙ row_done n i r b (length bytes₀) left next h;
    }

    pub listing-refused : (x.number ≡ 0 → ⊥) → x.number ≡ rows_refused n r₀ b (length bytes₀)
    listing-refused h = sym (g.whole ∙ row-refused n i r b (length bytes₀) left next h)

  pub listing-end : n ≤ i → 0 ≡ rows_refused n r₀ b (length bytes₀)
  listing-end h = sym (g.whole ∙ all_done n i r b (length bytes₀) h)

-- ---- the record
-- a record that contradicts nothing names a kind
known-kind : (f : Option Kind) (encoding : ℕ) (k : Kind) (e : Encoding) → with_encoding f encoding ≡ Some (column k e) → f ≡ None → ⊥
unfolding with_encoding
known-kind f encoding k e q h =
    let z : None ≡ Some (column k e) = ap (λ (g : Option Kind). with_encoding g encoding) (sym h) ∙ q in
    let y : ◌≡◌ {A = ℕ} 0 1 = cc in
    omega arith

pub kind-named : (r : Reader) → (remaining r).number ≡ 0 → kind_of r.kind r.width ≡ None → ⊥
unfolding remaining remaining_in column_of
kind-named r z h = go (column_of r.kind r.encoding r.width) refl z
  where
    go : (c : Option Column) → column_of r.kind r.encoding r.width ≡ c → (remaining_in c r).number ≡ 0 → ⊥
    go None q y = omega arith
    go (Some c) q y = known-kind (kind_of r.kind r.width) r.encoding c.kind c.encoding q h

module _ (r : Reader) (b : List ℕ) {l : Left} (q : l ≡ remaining r) where
  told : {t : Bool} → eqb l.number 0 ≡ t → cond t (rows_refused (min l.rows 1000) r b MOST_INPUT) l.number ≡ listed r b
  unfolding listed_of
  told h = ap (λ (t : Bool). cond t (rows_refused (min l.rows 1000) r b MOST_INPUT) l.number) (sym h) ∙ ap (λ (x : Left). listed_of x r b) q

  pub not_listed : (l.number ≡ 0 → ⊥) → l.number ≡ listed r b
  not_listed h = told (ne_eqb l.number 0 h)

  pub rows-listed : l.number ≡ 0 → {m n : ℕ} → m ≡ min l.rows 1000 → n ≡ rows_refused m r b MOST_INPUT → n ≡ listed r b
  rows-listed h e p = p ∙ ap (λ (i : ℕ). rows_refused i r b MOST_INPUT) e ∙ told (eq-eqb l.number 0 h)

-- ---- of a block that was opened no row is refused
rows-given : {k : Kind} {e : Encoding} {n : ℕ} {b : List ℕ} (room : ℕ) → length b ≤ room
    → (m : ℕ) (r : Reader) (is : List ℕ) → Stands k e n b r is → rows_refused m r b room ≡ 0
unfolding rows_refused next_row
rows-given room l zero r is g = refl
rows-given {b = b} room l (suc m) r is g =
    let h : Holds b (areas_for_one room) =
    record { values = omega arith; flags = omega arith; ends = omega arith; bytes = let z = length-replicate {A = ℕ} room 0 in omega arith } in
    let x = row-given g (areas_for_one room) h in
    ap (λ (t : Bool). cond t (rows_refused m (next_row r b room).reader b room) (next_row r b room).number) (eq-eqb (next_row r b room).number 0 x.number)
    ∙ rows-given room l m (next_row r b room).reader x.rest x.stands

pub opened-listed : (kind encoding width n : ℕ) (b : List ℕ) (r : Reader) → opened kind encoding width n b ≡ Ok r → length b ≤ MOST_INPUT → listed r b ≡ 0
unfolding after_all
opened-listed kind encoding width n b r here l =
    let z = (counts-add-up kind encoding width n b r here []).0 in
    sym (rows-listed r b refl z refl (sym (rows-given MOST_INPUT l (min (remaining r).rows 1000) r _ (found kind encoding width n b r here).stands)))

-- of an input that is opened
pub input-listed : (s : List ℕ) (r : Reader) → Ok r ≡ input_opened s → listed r (block_in s) ≡ 0
unfolding input_opened block_in described_opened
input-listed s r q = go (ltb (length s) 8) (ltb MOST_INPUT (length s)) (eqb d.zero 0) refl q
  where
    d : Descriptor
    d = descriptor_of (take 8 s)

    o : Result Reader ℕ
    o = opened d.kind d.encoding d.width d.rows (drop 8 s)

    go : (x y z : Bool) → ltb MOST_INPUT (length s) ≡ y → Ok r ≡ cond x (Err CUT) (cond y (Err LIMIT) (cond z o (Err COLUMN)))
        → listed r (cond x s (drop 8 s)) ≡ 0
    go true y z u p = let z : ◌≡◌ {A = ℕ} 0 1 = cc in absurd (omega arith)
    go false true z u p = let z : ◌≡◌ {A = ℕ} 0 1 = cc in absurd (omega arith)
    go false false false u p = let z : ◌≡◌ {A = ℕ} 0 1 = cc in absurd (omega arith)
    go false false true u p =
        let l = ltb-false MOST_INPUT (length s) u in
        let m = length-drop 8 s in
        opened-listed d.kind d.encoding d.width d.rows (drop 8 s) r (sym p) (omega arith)
