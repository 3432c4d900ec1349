-- A row that is an item: item i of a plain block, or of a nullable block, where its bit tells. Assumes nothing.
use Prim.Native.Nat.{ℕ, ◌+◌, ◌-◌, ◌*◌, ◌≤◌, ◌<◌}
use native.Mathlib.Nat.{zero-add}
use native.Mathlib.Numerals.{add-one}
use native.Mathlib.Omega.{arith}
use mathlib.Core.Bool.{Bool, true, false, cond, not}
use mathlib.Core.List.{List, map}
use mathlib.Core.Path.{◌≡◌, sym, ap, subst, ◌∙◌}
use borrow.Author.Tests.{not-true, not-false}
use lib.Dec.{eqb}
use lib.ListN.{length, take, drop, get_or}
use lib.Seq.{take_all}
use Rattle.std.specs.Prelude.{Option, Some, None}
use Rattle.limits.specs.Limits.{MOST_ITEMS}
use Rattle.encode.specs.declared.Kind.{Kind}
use Rattle.plain.specs.Rows.{Row, null}
use Rattle.plain.specs.Plain.{places, plain_row}
use Rattle.plain.proofs.Places.{get_d_over}
use Rattle.nullable.specs.Nullable.{bitmap_length, plain_part, bitmap_part, bit_at, nullable_row}
use Rattle.nullable.proofs.Parts as NullableParts
use Rattle.nullable.proofs.Parts.{length-bitmap-part}
use Rattle.dict.specs.Dictionary.{entry_row}
use Rattle.format.specs.declared.Encoding.{Encoding}
use Rattle.format.specs.declared.Encoding.TheVariants.{Plain, Nullable}
use Rattle.format.specs.Opening.{most_rows, head_of, row_at, places_of, rows_of}
use Rattle.format.proofs.Sound.{plain-sound, nullable-sound}
use Rattle.slow_plain.specs.Items.{slot_of}
use Rattle.slow_places.specs.declared.Place.{Place}
use Rattle.slow_places.specs.Places.{Opened}
use Rattle.slow_places.specs.Inner.{Told, Has}

abbrev pub place : ℕ → ℕ → ℕ → Option ℕ → Place
place from to items item = record { from = from; to = to; items = items; item = item }

-- ---- the encoding that a match found, for the one that was given
module _ {e f : Encoding} (same : e ≡ f) {n : ℕ} {b : List ℕ} where
  pub opened-as : Opened e n b → Opened f n b
  opened-as o = subst (λ (x : Encoding). Opened x n b) same o

  pub has-as : {row : ℕ} → Opened e n b → row < n → Has f b row
  has-as o l = record { rows = n; opened = opened-as o; inside = l }

  pub told-as : {row : ℕ} {p : Place} → Told f n b row p → Told e n b row p
  told-as {row} {p} t = subst (λ (x : Encoding). Told x n b row p) (sym same) t

-- ---- the rows
module _ (k : Kind) (n : ℕ) (b : List ℕ) (i : ℕ) (l : i < n) where
  item-row : (f : ℕ → Row) → get_or (map f (places n 0)) i null ≡ f i
  item-row f = get_d_over f n 0 i null l ∙ ap f (zero-add i)

  pub plain_row_lem : get_or (rows_of k Plain n b) i null ≡ plain_row k n b i
  unfolding rows_of row_at places_of
  plain_row_lem = item-row (row_at k Plain n (head_of Plain b) b)

  pub nullable-row : get_or (rows_of k Nullable n b) i null ≡ nullable_row k n b i
  unfolding rows_of row_at places_of
  nullable-row = item-row (row_at k Nullable n (head_of Nullable b) b)

-- an item, counted from 1
entry-item : (k : Kind) (n : ℕ) (s : List ℕ) (i : ℕ) → plain_row k n s i ≡ entry_row k n s (i + 1)
unfolding entry_row
entry-item k n s i = rw add-one

-- ---- plain
module _ (n : ℕ) (b : List ℕ) (i : ℕ) (l : i < n) where
  pub plain-told : Opened Plain n b → Told Plain n b i (place 0 (length b) n (Some i))
  unfolding most_rows
  plain-told o k z =
      let a : take (length b - 0) b ≡ b = take_all (length b - 0) b (omega arith) in
      record {
        ordered = omega arith;
        inside = omega arith;
        few = o.few;
        sound = rw a (plain-sound k n b z);
        slot = omega arith;
        shown = rw a (plain_row_lem k n b i l ∙ entry-item k n b i);
      }

-- ---- nullable
-- a bit for each item
bitmap-holds : (n : ℕ) → n ≤ 8 * bitmap_length n
unfolding bitmap_length
bitmap-holds n = omega arith

pub nullable-sizes : {n : ℕ} {b : List ℕ} → Opened Nullable n b → (n ≤ MOST_ITEMS) × (bitmap_length n + 4 ≤ length b)
unfolding most_rows
nullable-sizes {n} {b} o = (o.few, (NullableParts.sound o.kind n b (nullable-sound o.kind n b o.sound)).room)

-- w is the length of the bitmap that was counted
module _ (n : ℕ) (b : List ℕ) (i : ℕ) (l : i < n) (o : Opened Nullable n b) {w : ℕ} (e : w ≡ bitmap_length n) where
  abbrev bits : ℕ
  bits = length b - (w + 4)

  -- the bytes that are looked at
  abbrev seen : List ℕ
  seen = take (length b - 4 - bits) (drop bits b)

  its-bitmap : seen ≡ bitmap_part n b
  unfolding bitmap_part
  its-bitmap =
      let h = (nullable-sizes o).1 in
      let m : length b - 4 - (length b - (bitmap_length n + 4)) ≡ bitmap_length n = omega arith in
      rw (e, m)

  pub bit-there : i < 8 * length seen
  bit-there =
      let h = (nullable-sizes o).1 in
      let m : length seen ≡ bitmap_length n = ap length its-bitmap ∙ length-bitmap-part n b h in
      omega (arith, bitmap-holds n)

  its-items : take (bits - 0) b ≡ plain_part n b
  unfolding plain_part
  its-items = let m : length b - (bitmap_length n + 4) - 0 ≡ length b - (bitmap_length n + 4) = omega arith in rw (e, m)

  shown_by :
      (item : Option ℕ) → slot_of item ≤ n → ((k : Kind) → nullable_row k n b i ≡ entry_row k n (plain_part n b) (slot_of item))
      → Told Nullable n b i (place 0 bits n item)
  shown_by item h f k z =
      let s = NullableParts.sound k n b (nullable-sound k n b z) in
      let a : take (bits - 0) b ≡ plain_part n b = its-items in
      record {
        ordered = omega arith;
        inside = omega arith;
        few = (nullable-sizes o).0;
        sound = rw a s.plain;
        slot = h;
        shown = rw a (nullable-row k n b i l ∙ f k);
      }

  -- t is what the bit said
  module _ {t : Bool} (q : t ≡ not (eqb (bit_at seen i) 0)) where
    bit_is : (u : Bool) → eqb (bit_at seen i) 0 ≡ u → (k : Kind) → nullable_row k n b i ≡ cond u null (plain_row k n (plain_part n b) i)
    unfolding nullable_row
    bit_is u r k = ap (λ (x : Bool). cond x null (plain_row k n (plain_part n b) i)) (rw its-bitmap at r)

    pub item-told : t ≡ true → Told Nullable n b i (place 0 bits n (Some i))
    item-told r = shown_by (Some i) (omega arith) (λ k. bit_is false (not-true _ (sym q ∙ r)) k ∙ entry-item k n (plain_part n b) i)

    pub null-told : t ≡ false → Told Nullable n b i (place 0 bits n None)
    unfolding entry_row
    null-told r = shown_by None (omega arith) (λ k. bit_is true (not-false _ (sym q ∙ r)) k)
