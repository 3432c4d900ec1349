-- What the tests of an append have shown at each of its places, in one record that each place extends; what they say of the callees' requirements;
-- and the answer at each end. Assumes nothing.
use Prim.Native.Nat.{ℕ, ◌+◌, ◌*◌, ◌≤◌, ◌<◌}
use native.Mathlib.Omega.{arith}
use mathlib.Core.Path.{◌≡◌, refl, sym, ap, ◌∙◌}
use mathlib.Core.Bool.{Bool, true, false, cond, not, ◌&&◌}
use mathlib.Core.List.{List}
use lib.Dec.{eqb}
use lib.IntN.{ℤ}
use lib.ListN.{length, set}
use borrow.Author.Tests.{ltb-false, eqb-true, eq-eqb, ne_eqb, not-false}
use mir.Syntax.{w32}
use mir.Val.{of_z, to_z, SFits}
use mir.Facts.{to_z-of_z}
use Rattle.limits.specs.Limits.{MOST_ITEMS, MOST_ENTRIES, MOST_COUNT}
use Rattle.area.specs.Area.{over}
use Rattle.encode.specs.declared.Kind.{Kind}
use Rattle.encode.specs.declared.Kind.TheVariants.{Fixed, Char, Blob}
use Rattle.encode.specs.Kinds.{width_of}
use Rattle.plain.specs.Rows.{Row, value_of, row_of, bytes_in}
use Rattle.plain.specs.Plain.{item_of}
use Rattle.nullable.specs.Nullable.{presence}
use Rattle.format.specs.declared.Encoding.{Encoding}
use Rattle.format.specs.declared.Encoding.TheVariants.{Dictionary}
use Rattle.lookup.specs.Held.{Held}
use Rattle.lookup.specs.Asking.{FieldsThere, BytesThere}
use Rattle.slots.specs.Slots.{ends_with, lens_with, flags_with, counts_with}
use Rattle.needs.specs.declared.Counted.{Counted}
use Rattle.needs.specs.declared.Room.{Room}
use Rattle.needs.specs.Needs.{coded, flagged, keyed, stored_by, past_limits, bytes_wrong, record_wrong, fields_short, too_short, disagree}
use Rattle.needs.specs.Tests.{runs_by}
use Rattle.needs.proofs.Encodings.{runs-stored, keys-stored, keys-keyed}
use Rattle.needs.proofs.Short.{fitting}
use Rattle.needs.proofs.Wrong.{right, bytes-right, agree}
use Rattle.step.specs.Counting.{Next, grown, counted_by}
use Rattle.step.proofs.Steps.{step-says, step_fits}
use Rattle.append.specs.Appending.{Lent, lent, room_of, held_in, laid, added_to, added_with, added_by, added}
use Rattle.append.specs.Asking.{Stores, Found}
use Rattle.append.proofs.Slots.{Counts, stores, counts}

-- ---- the row that was passed on as the bits of its integer shows as another, which is the same
module _ (k : Kind) (f : Bool) (i at : ℕ) {passed row : Row} (q : passed ≡ row) where
  pub stores-passed : {len : ℕ} {is es fs ls : List ℕ} → Stores k f i at row len is es fs ls → Stores k f i at passed len is es fs ls
  stores-passed s = rw q s

  pub put-passed :
      (item : Bool) (a : Lent) {is es fs ls : List ℕ}
      → (is ≡ cond item (over a.items at (item_of k passed)) a.items)
      × ((es ≡ cond item (ends_with k i (at + length (item_of k passed)) a.ends) a.ends)
      × ((fs ≡ cond (item && f) (flags_with i (presence passed) a.flags) a.flags) × (ls ≡ cond item (lens_with k i (length (bytes_in passed)) a.lens) a.lens)))
      → (is ≡ cond item (over a.items at (item_of k row)) a.items)
      × ((es ≡ cond item (ends_with k i (at + length (item_of k row)) a.ends) a.ends)
      × ((fs ≡ cond (item && f) (flags_with i (presence row) a.flags) a.flags) × (ls ≡ cond item (lens_with k i (length (bytes_in row)) a.lens) a.lens)))
  put-passed item a w = rw q at w

-- ---- numbers and areas that agree: what the search for the row asks
bytes-there : (k : Kind) (n len : ℕ) (h : Held) → bytes_wrong k n len ≡ false → len ≤ length h.items → BytesThere k n len h
unfolding bytes_wrong BytesThere
bytes-there (Fixed p) n len h w l = let e = eqb-true len (n * width_of p) (not-false _ w) in omega arith
bytes-there (Char w) n len h q l = let e = eqb-true len (n * w) (not-false _ q) in omega arith
bytes-there (Blob text) n len h w l = l

fields-there : (k : Kind) (n : ℕ) (a : Lent) → fields_short k n (room_of a) ≡ false → FieldsThere k n (held_in a)
unfolding fields_short room_of FieldsThere
fields-there (Fixed p) n a h = tt
fields-there (Char w) n a h = ltb-false (length a.lens) n h
fields-there (Blob text) n a h = ltb-false (length a.ends) n h

module _ (k : Kind) (e : Encoding) (r : Counted) (a : Lent) (h : disagree k e r (room_of a) ≡ false) where
  pub are-right : record_wrong k e r ≡ false
  are-right = (agree k e r (room_of a) h).right

  pub there : {n : ℕ} → n ≡ stored_by e r → (n ≤ MOST_ITEMS) × FieldsThere k n (held_in a) × BytesThere k n r.bytes (held_in a)
  unfolding room_of
  there q =
      let g = right k e r are-right in
      let f = fitting k e r (room_of a) (agree k e r (room_of a) h).long in
      rw q (
        g.few.stored,
        fields-there k (stored_by e r) a f.fields,
        bytes-there k (stored_by e r) r.bytes (held_in a) (bytes-right k e r are-right) f.items,
      )

  pub keys-there : keyed e ≡ true → (r.entries ≤ MOST_ENTRIES) × (r.runs ≤ length a.keys)
  unfolding room_of
  keys-there t = ((right k e r are-right).few.entries t, (fitting k e r (room_of a) (agree k e r (room_of a) h).long).keys t)

-- of runs
pub runs-there : (k : Kind) (f : Bool) (r : Counted) (a : Lent) → disagree k (runs_by f) r (room_of a) ≡ false
    → (r.runs ≤ MOST_ITEMS) × FieldsThere k r.runs (held_in a) × BytesThere k r.runs r.bytes (held_in a)
runs-there k f r a h = there k (runs_by f) r a h (runs-stored f r)

-- of keys
pub entries-there : (k : Kind) (r : Counted) (a : Lent) → disagree k Dictionary r (room_of a) ≡ false
    → (r.entries ≤ MOST_ENTRIES) × (r.runs ≤ length a.keys) × FieldsThere k r.entries (held_in a) × BytesThere k r.entries r.bytes (held_in a)
entries-there k r a h =
    let t = there k Dictionary r a h (keys-stored r) in
    let u = keys-there k Dictionary r a h keys-keyed in
    (u.0, u.1, t.1, t.2)

-- ---- what has been shown
-- what is answered once the row is counted in
abbrev pub CountedIn : Kind → Encoding → Counted → Lent → Row → Bool → Bool → Next → Type 0
CountedIn k e r a row item joins n = n ≡ counted_by k e r (room_of a) (grown e r (presence row) (length (item_of k row)) item joins)

-- and it is counted in, within the limits and the lent room; its item has so many bytes
pub record Taken (k : Kind) (e : Encoding) (r : Counted) (a : Lent) (row : Row) (item joins : Bool) (key : ℤ) (len : ℕ) (n : Next) : Type 0 where
  pub found : Found k e r a row item joins key
  pub long : len ≡ length (item_of k row)
  pub counted : CountedIn k e r a row item joins n
  pub done : n.number ≡ 0

-- ---- the row's flag is what it is given
pub presence-of : (k : Kind) (present : Bool) (v : ℤ) (bs : List ℕ) → cond present 1 0 ≡ presence (row_of k present v bs)
unfolding row_of value_of presence
presence-of k false v bs = refl
presence-of (Fixed p) true v bs = refl
presence-of (Char w) true v bs = refl
presence-of (Blob text) true v bs = refl

pub counted-row :
    (k : Kind) (e : Encoding) (r : Counted) (m : Room) (present : Bool) (v : ℤ) (bs : List ℕ) (item joins : Bool) {len : ℕ}
    → len ≡ length (item_of k (row_of k present v bs)) → {n : Next} → n ≡ counted_by k e r m (grown e r (cond present 1 0) len item joins)
    → n ≡ counted_by k e r m (grown e r (presence (row_of k present v bs)) (length (item_of k (row_of k present v bs))) item joins)
counted-row k e r m present v bs item joins l q = rw (← presence-of k present v bs, ← l) q

-- ---- the numbers with rows counted in: 3, 4, or they are within the limits and have room; the areas are left as they are, unless the answer is 0
module _ (k : Kind) (e : Encoding) (r : Counted) (a : Lent) where
  with-answer : (next : Counted) (after : Lent) (x y : Bool) → past_limits k e next ≡ x → too_short k e next (room_of a) ≡ y
      → added_to (counted_by k e r (room_of a) next) (cond (eqb (counted_by k e r (room_of a) next).number 0) after a) ≡ added_with k e r a next after
  unfolding added_with counted_by
  with-answer next after true y p q = rw p
  with-answer next after false true p q = rw (p, q)
  with-answer next after false false p q = rw (p, q)

  pub limits-kept : (next : Counted) (x y : Bool) → past_limits k e next ≡ x → too_short k e next (room_of a) ≡ y → (counted_by k e r (room_of a) next).number ≡ 0
      → (past_limits k e next ≡ false) × (too_short k e next (room_of a) ≡ false)
  unfolding counted_by
  limits-kept next true y p q h = absurd (omega (arith, rw p at h))
  limits-kept next false true p q h = absurd (omega (arith, rw (p, q) at h))
  limits-kept next false false p q h = (p, q)

  answered : (next : Counted) (after : Lent) {n : Next} → n ≡ counted_by k e r (room_of a) next
      → added_to n (cond (eqb n.number 0) after a) ≡ added_with k e r a next after
  answered next after q = rw q (with-answer next after _ _ refl refl)

  pub with-refused : (next : Counted) (after : Lent) {n : Next} → n ≡ counted_by k e r (room_of a) next → (n.number ≡ 0 → ⊥) → added_to n a ≡ added_with k e r a next after
  with-refused next after {n} q d = ap (λ (b : Bool). added_to n (cond b after a)) (sym (ne_eqb n.number 0 d)) ∙ answered next after q

  pub with-taken : (next : Counted) (after : Lent) {n : Next} → n ≡ counted_by k e r (room_of a) next → n.number ≡ 0 → added_to n after ≡ added_with k e r a next after
  with-taken next after {n} q d = ap (λ (b : Bool). added_to n (cond b after a)) (sym (eq-eqb n.number 0 d)) ∙ answered next after q

-- ---- a row that is found
module _ (k : Kind) (e : Encoding) (r : Counted) (a : Lent) (row : Row) where
  module _ {item joins : Bool} {key : ℤ} (f : Found k e r a row item joins key) where
    -- but for a dictionary, the row is stored exactly if it doesn't join; one that joins finds a run that is open
    says : (joins ≡ true → (0 < r.runs) × (r.last < MOST_COUNT)) × (keyed e ≡ false → item ≡ not joins)
    says = step-says k e r (held_in a) a.keys row f.step

    pub count-asks : (record_wrong k e r ≡ false) × (joins ≡ true → r.last < MOST_COUNT) × (keyed e ≡ false → item ≡ not joins)
    count-asks = (are-right k e r a f.agrees, λ j. (says.0 j).1, says.1)

    -- its key is an i32
    pub key-small : SFits w32 key
    key-small = step_fits k e r (held_in a) a.keys row (right k e r (are-right k e r a f.agrees)).few.entries f.step

    abbrev next : Counted
    next = grown e r (presence row) (length (item_of k row)) item joins

    abbrev after : Lent
    after = laid k e r row item joins key a

    counted-in : added_with k e r a next after ≡ added k e r a row
    unfolding added added_by
    counted-in = rw (f.agrees, ← f.step, f.fit)

    pub count-refused : {n : Next} → n ≡ counted_by k e r (room_of a) next → (n.number ≡ 0 → ⊥) → added_to n a ≡ added k e r a row
    count-refused q d = with-refused k e r a next after q d ∙ counted-in

    count-done : {n : Next} → n ≡ counted_by k e r (room_of a) next → n.number ≡ 0 → added_to n after ≡ added k e r a row
    count-done q d = with-taken k e r a next after q d ∙ counted-in

-- ---- once the row is taken
module _ (k : Kind) (e : Encoding) (r : Counted) (a : Lent) (row : Row) {item joins : Bool} {key : ℤ} {len : ℕ} {n : Next}
    (t : Taken k e r a row item joins key len n) where
  limits : let next = grown e r (presence row) (length (item_of k row)) item joins in (past_limits k e next ≡ false) × (too_short k e next (room_of a) ≡ false)
  limits =
      let next = grown e r (presence row) (length (item_of k row)) item joins in
      limits-kept k e r a next _ _ refl refl (sym (ap (λ (m : Next). m.number) t.counted) ∙ t.done)

  -- the slots of its item are there
  pub item-asks :
      item ≡ true → {i : ℕ} → i ≡ stored_by e r → {f : Bool} → f ≡ flagged e → Stores k f i r.bytes row len a.items a.ends a.flags a.lens
  item-asks z p q =
      rw (p, q, t.long)
      (stores k e r a (presence row) (length (item_of k row)) item joins (says k e r a row t.found).1 limits.0 limits.1 row t.found.fit refl z)

  -- those of its run
  pub run-asks : coded e ≡ true → {d : Bool} → d ≡ keyed e → Counts r d joins a.counts a.keys
  run-asks c q =
      let s = says k e r a row t.found in
      counts k e r a (presence row) (length (item_of k row)) item joins s.1 limits.0 limits.1 s.0 c q

  -- all is written
  pub row_done :
      {i : ℕ} → i ≡ stored_by e r → {f : Bool} → f ≡ flagged e → {b : Bool} → b ≡ coded e → {d : Bool} → d ≡ keyed e → {is es fs cs ls : List ℕ} {ks : List ℤ}
      → (is ≡ cond item (over a.items r.bytes (item_of k row)) a.items)
      × ((es ≡ cond item (ends_with k i (r.bytes + length (item_of k row)) a.ends) a.ends)
      × ((fs ≡ cond (item && f) (flags_with i (presence row) a.flags) a.flags) × (ls ≡ cond item (lens_with k i (length (bytes_in row)) a.lens) a.lens)))
      → cs ≡ cond b (counts_with r.runs r.last joins a.counts) a.counts
      → ks ≡ cond (d && not joins) (set a.keys r.runs (to_z w32 (of_z w32 key))) a.keys
      → added_to n (lent is es fs cs ks ls) ≡ added k e r a row
  unfolding laid
  row_done s f c d put counts keys =
      rw (put.0, put.1.0, put.1.1.0, put.1.1.1, counts, keys, s, f, c, d, to_z-of_z (key-small k e r a row t.found)) (count-done k e r a row t.found t.counted t.done)
