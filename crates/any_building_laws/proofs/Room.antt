-- The need of a list is that of the record that counts it, and areas are below it exactly if they are not long enough. Assumes nothing.
use Prim.Native.Nat.{ℕ}
use native.Mathlib.Omega.{arith}
use mathlib.Core.Bool.{Bool, true, false, cond, ◌&&◌, ◌||◌, or-false}
use mathlib.Core.List.{List}
use mathlib.Core.Path.{◌≡◌, refl, sym}
use lib.Dec.{ltb}
use lib.ListN.{length}
use borrow.Author.Tests.{le-ltb, ltb-false}
use Rattle.encode.specs.declared.Kind.{Kind}
use Rattle.encode.specs.declared.Kind.TheVariants.{Fixed, Char, Blob}
use Rattle.encode.proofs.Bools.{or-none, neither}
use Rattle.plain.specs.Rows.{Row}
use Rattle.plain.specs.Plain.{joined, item_of}
use Rattle.nullable.specs.Nullable.{bitmap_length}
use Rattle.format.specs.declared.Encoding.{Encoding}
use Rattle.format.specs.declared.Encoding.TheVariants.{Plain, Nullable, RunLength, RunLengthNullable, Dictionary}
use Rattle.needs.specs.declared.Counted.{Counted}
use Rattle.needs.specs.declared.Room.{Room}
use Rattle.needs.specs.Needs.{coded, flagged, keyed, fields_short, runs_short, too_short}
use Rattle.append.specs.Appending.{Lent, room_of}
use Rattle.building_laws.specs.Built.{stored_rows, stored_runs, end_slots, len_slots, Enough}
use Rattle.building_laws.proofs.Records.{Recorded, stored-by}
use Rattle.any_building_laws.specs.BuilderCalls.{need_of, below}

-- ---- each test of the record is one of the list's needs
-- nothing is below a need of 0
none_below : (m : ℕ) → ltb m 0 ≡ false
none_below m = le-ltb m 0 (omega arith)

if-below : (t : Bool) (m n : ℕ) → (t && ltb m n) ≡ ltb m (cond t n 0)
if-below true m n = refl
if-below false m n = sym (none_below m)

fields-below : (k : Kind) (n : ℕ) (m : Room) → fields_short k n m ≡ (ltb m.ends (end_slots k n) || ltb m.lens (len_slots k n))
unfolding fields_short end_slots len_slots
fields-below (Fixed p) n m = rw (none_below m.ends, none_below m.lens)
fields-below (Char w) n m = rw (none_below m.ends)
fields-below (Blob text) n m = rw (none_below m.lens, or-false)

-- encodings that are not coded by runs have none
counts-below : (e : Encoding) (rows : List Row) (m : ℕ) → (coded e && ltb m (length (stored_runs e rows))) ≡ ltb m (length (stored_runs e rows))
unfolding coded stored_runs
counts-below Plain rows m = sym (none_below m)
counts-below Nullable rows m = sym (none_below m)
counts-below RunLength rows m = refl
counts-below RunLengthNullable rows m = refl
counts-below Dictionary rows m = refl

-- the tests in the record's order, and in that of the areas
in_order : (items ends flags counts keys lens : Bool)
    → (items || (ends || lens) || flags || (counts || keys)) ≡ (items || ends || flags || counts || keys || lens)
in_order true ends flags counts keys lens = refl
in_order false true flags counts keys lens = refl
in_order false false true counts keys true = refl
in_order false false true counts keys false = refl
in_order false false false true keys true = refl
in_order false false false true keys false = refl
in_order false false false false true true = refl
in_order false false false false true false = refl
in_order false false false false false true = refl
in_order false false false false false false = refl

pub short-exactly : (k : Kind) (e : Encoding) (rows : List Row) (c : Counted) (a : Lent) → Recorded k e rows c
    → too_short k e c (room_of a) ≡ below (need_of k e rows) (room_of a)
unfolding too_short runs_short room_of below need_of
short-exactly k e rows c a h =
    let n : ℕ = length (stored_rows e rows) in
    let rs : ℕ = length (stored_runs e rows) in
    rw (
      stored-by k rows c e h,
      h.bytes,
      h.runs,
      fields-below k n (room_of a),
      if-below (flagged e) (length a.flags) (bitmap_length n),
      counts-below e rows (length a.counts),
      if-below (keyed e) (length a.keys) rs,
    )
    (in_order
    (ltb (length a.items) (length (joined (item_of k) (stored_rows e rows))))
    (ltb (length a.ends) (end_slots k n))
    (ltb (length a.flags) (cond (flagged e) (bitmap_length n) 0))
    (ltb (length a.counts) rs)
    (ltb (length a.keys) (cond (keyed e) rs 0))
    (ltb (length a.lens) (len_slots k n)))

-- ---- areas that are not below the need are long enough
-- of the tests in a row, none holds
pub enough-told : (k : Kind) (e : Encoding) (rows : List Row) (a : Lent) → below (need_of k e rows) (room_of a) ≡ false → Enough k e rows a
unfolding below need_of room_of
enough-told k e rows a h =
    let n : ℕ = length (stored_rows e rows) in
    let rs : ℕ = length (stored_runs e rows) in
    let five = neither _ _ h in
    let four = neither _ _ five.0 in
    let three = neither _ _ four.0 in
    let two = neither _ _ three.0 in
    let one = neither _ _ two.0 in
    record {
      items = ltb-false (length a.items) (length (joined (item_of k) (stored_rows e rows))) one.0;
      ends = ltb-false (length a.ends) (end_slots k n) one.1;
      flags = ltb-false (length a.flags) (cond (flagged e) (bitmap_length n) 0) two.1;
      counts = ltb-false (length a.counts) rs three.1;
      keys = ltb-false (length a.keys) (cond (keyed e) rs 0) four.1;
      lens = ltb-false (length a.lens) (len_slots k n) five.1;
    }

-- and the other way
pub below-told : (k : Kind) (e : Encoding) (rows : List Row) (a : Lent) → Enough k e rows a → below (need_of k e rows) (room_of a) ≡ false
unfolding below need_of room_of
below-told k e rows a h =
    or-none
    (or-none
    (or-none
    (or-none
    (or-none
    (le-ltb (length a.items) (length (joined (item_of k) (stored_rows e rows))) h.items)
    (le-ltb (length a.ends) (end_slots k (length (stored_rows e rows))) h.ends))
    (le-ltb (length a.flags) (cond (flagged e) (bitmap_length (length (stored_rows e rows))) 0) h.flags))
    (le-ltb (length a.counts) (length (stored_runs e rows)) h.counts))
    (le-ltb (length a.keys) (cond (keyed e) (length (stored_runs e rows)) 0) h.keys))
    (le-ltb (length a.lens) (len_slots k (length (stored_rows e rows))) h.lens)
