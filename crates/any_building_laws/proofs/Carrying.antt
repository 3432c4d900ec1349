-- A builder that agrees with its areas agrees with other areas that hold the same in the recorded slots. Assumes nothing.
use Prim.Native.Nat.{ℕ, ◌≤◌}
use native.Mathlib.Omega.{arith}
use mathlib.Core.Bool.{Bool, true, false, cond}
use mathlib.Core.List.{List, [], map}
use mathlib.Core.Path.{◌≡◌, refl, sym, ap, subst, ◌∙◌}
use lib.ListN.{length, take, length-take}
use Rattle.encode.specs.declared.Kind.{Kind}
use Rattle.encode.specs.declared.Kind.TheVariants.{Fixed, Char, Blob}
use Rattle.plain.specs.Rows.{Row, int}
use Rattle.plain.specs.Plain.{joined, item_of}
use Rattle.nullable.specs.Nullable.{bitmap_length}
use Rattle.format.specs.declared.Encoding.{Encoding}
use Rattle.format.specs.Blocks.{column_of, column}
use Rattle.needs.specs.declared.Counted.{Counted}
use Rattle.needs.specs.Needs.{flagged, keyed}
use Rattle.append.specs.Appending.{Lent}
use Rattle.builder.specs.declared.Builder.{Builder}
use Rattle.std.specs.Prelude.{Ok, Some}
use Rattle.builder.specs.Building.{empty, created}
use Rattle.building_laws.specs.Built.{stored_rows, stored_runs, end_slots, len_slots, Enough}
use Rattle.building_laws.proofs.Records.{Recorded, stored-by}
use Rattle.building_laws.proofs.AreasOfRows.{EndsHeld, LensHeld, Holds}
use Rattle.building_laws.proofs.BuilderOfRows.{no_items, no-runs, Stands, stands-first}
use Rattle.building_laws.proofs.Built.{created-told}
use Rattle.any_building_laws.specs.BuilderCalls.{Carries}

-- ---- one area
-- what begins with as much as a long enough area is long enough
module _ {A : Type 0} where
  long-too : (n : ℕ) (l m : List A) → take n m ≡ take n l → n ≤ length l → n ≤ length m
  long-too n l m p h =
      let a = length-take n l in
      let b = length-take n m in
      let c = ap length p in
      omega arith

-- a need in some encodings alone
pub if-long : (t : Bool) (n m : ℕ) → (t ≡ true → n ≤ m) → cond t n 0 ≤ m
if-long true n m h = h refl
if-long false n m h = omega arith

pub need-if : (t : Bool) (n m : ℕ) → cond t n 0 ≤ m → t ≡ true → n ≤ m
need-if true n m h q = h
need-if false n m h q = absurd (let z : ◌≡◌ {A = ℕ} 0 1 = cc in omega arith)

ends-carried : (k : Kind) (s : List Row) (l m : List ℕ) → take (end_slots k (length s)) m ≡ take (end_slots k (length s)) l → EndsHeld k s l → EndsHeld k s m
unfolding end_slots
ends-carried (Fixed p) s l m q h = tt
ends-carried (Char w) s l m q h = tt
ends-carried (Blob text) s l m q h = q ∙ h

lens-carried : (k : Kind) (s : List Row) (l m : List ℕ) → take (len_slots k (length s)) m ≡ take (len_slots k (length s)) l → LensHeld k s l → LensHeld k s m
unfolding len_slots
lens-carried (Fixed p) s l m q h = tt
lens-carried (Char w) s l m q h = q ∙ h
lens-carried (Blob text) s l m q h = tt

-- ---- the six areas
module _ (k : Kind) (e : Encoding) (rows : List Row) (c : Counted) (left lent : Lent) (r : Recorded k e rows c) (p : Carries k e c left lent) where
  -- what is carried, by the list
  items-told : let n = length (joined (item_of k) (stored_rows e rows)) in take n lent.items ≡ take n left.items
  items-told = rw r.bytes at p.items

  ends-told : let n = end_slots k (length (stored_rows e rows)) in take n lent.ends ≡ take n left.ends
  ends-told = rw (stored-by k rows c e r) at p.ends

  counts-told : let n = length (stored_runs e rows) in take n lent.counts ≡ take n left.counts
  counts-told = rw r.runs at p.counts

  keys-told : keyed e ≡ true → let n = length (stored_runs e rows) in take n lent.keys ≡ take n left.keys
  keys-told u = rw r.runs at (p.keys u)

  lens-told : let n = len_slots k (length (stored_rows e rows)) in take n lent.lens ≡ take n left.lens
  lens-told = rw (stored-by k rows c e r) at p.lens

  holds-carried : Holds k e rows left → Holds k e rows lent
  holds-carried h = record {
    items = items-told ∙ h.items;
    ends = ends-carried k (stored_rows e rows) left.ends lent.ends ends-told h.ends;
    flags = λ u. (rw (stored-by k rows c e r) at (p.flags u)) ∙ h.flags u;
    counts = counts-told ∙ h.counts;
    keys = λ u. h.keys u ∙ ap (map int) (sym (keys-told u));
    lens = lens-carried k (stored_rows e rows) left.lens lent.lens lens-told h.lens;
    fit = h.fit;
    keys_fit = h.keys_fit;
  }

  enough-carried : Enough k e rows left → Enough k e rows lent
  enough-carried h =
      let n : ℕ = length (stored_rows e rows) in
      let rs : ℕ = length (stored_runs e rows) in
      record {
        items = long-too (length (joined (item_of k) (stored_rows e rows))) left.items lent.items items-told h.items;
        ends = long-too (end_slots k n) left.ends lent.ends ends-told h.ends;
        flags = if-long (flagged e) (bitmap_length n) (length lent.flags) (λ u. rw (stored-by k rows c e r) at (p.flags_long u));
        counts = long-too rs left.counts lent.counts counts-told h.counts;
        keys =
            if-long (keyed e) rs (length lent.keys)
            (λ u. long-too rs left.keys lent.keys (keys-told u) (need-if (keyed e) rs (length left.keys) h.keys u));
        lens = long-too (len_slots k n) left.lens lent.lens lens-told h.lens;
      }

-- the same areas again, if they are long enough
pub carries_same : (k : Kind) (e : Encoding) (rows : List Row) (c : Counted) (a : Lent) → Recorded k e rows c → Enough k e rows a → Carries k e c a a
carries_same k e rows c a r h = record {
  items = refl;
  ends = refl;
  flags_long = λ u. rw (stored-by k rows c e r) (need-if (flagged e) (bitmap_length (length (stored_rows e rows))) (length a.flags) h.flags u);
  flags = λ u. refl;
  counts = refl;
  keys = λ u. refl;
  lens = refl;
}

-- ---- a builder that agrees with its areas: they stand as the rows left them, and are long enough for them
pub record Agrees (k : Kind) (e : Encoding) (target key : ℕ) (rows : List Row) (r : Builder) (a : Lent) : Type 0 where
  pub stands : Stands k e target key rows r a
  pub enough : Enough k e rows a

pub agrees-carried : (k : Kind) (e : Encoding) (target key : ℕ) (rows : List Row) (r : Builder) (left lent : Lent)
    → Agrees k e target key rows r left → Carries k e r.counted left lent → Agrees k e target key rows r lent
agrees-carried k e target key rows r left lent g p =
    let s = g.stands in
    record {
      stands = record {
        column = s.column;
        aim = s.aim;
        key_aim = s.key_aim;
        recorded = s.recorded;
        holds = holds-carried k e rows r.counted left lent s.recorded p s.holds;
        within = s.within;
      };
      enough = enough-carried k e rows r.counted left lent s.recorded p g.enough;
    }

-- ---- at creation: with any areas, since none is needed
none-long : (k : Kind) (m n : ℕ) → (end_slots k 0 ≤ m) × (len_slots k 0 ≤ n)
unfolding end_slots len_slots
none-long (Fixed p) m n = (omega arith, omega arith)
none-long (Char w) m n = (omega arith, omega arith)
none-long (Blob text) m n = (omega arith, omega arith)

none_needed : (k : Kind) (e : Encoding) (a : Lent) → Enough k e [] a
unfolding joined bitmap_length
none_needed k e a = record {
  items = rw (no_items e) (omega arith);
  ends = rw (no_items e) (none-long k (length a.ends) (length a.lens)).0;
  flags = rw (no_items e) (if-long (flagged e) 0 (length a.flags) (λ u. omega arith));
  counts = rw (no-runs e) (omega arith);
  keys = rw (no-runs e) (if-long (keyed e) 0 (length a.keys) (λ u. omega arith));
  lens = rw (no_items e) (none-long k (length a.ends) (length a.lens)).1;
}

pub agrees_first : (kind encoding width target key : ℕ) (k : Kind) (e : Encoding) → column_of kind encoding width ≡ Some (column k e) → (r : Builder)
    → created kind encoding width target key ≡ Ok r → (a : Lent) → Agrees k e target key [] r a
unfolding created
agrees_first kind encoding width target key k e column r new a =
    let first = created-told (column_of kind encoding width) (empty kind encoding width target key) r k e column new in
    record {
      stands = subst (λ (s : Builder). Stands k e target key [] s a) first (stands-first k e kind encoding width target key column a);
      enough = none_needed k e a;
    }
