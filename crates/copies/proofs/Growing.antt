-- Counted numbers that are each no less than another's: if they are within the limits and have room, so were the others. Assumes nothing.
use Prim.Native.Nat.{ℕ, zero, suc, ◌+◌, ◌*◌, ◌≤◌}
use native.Mathlib.Omega.{arith}
use mathlib.Core.Path.{◌≡◌, refl}
use mathlib.Core.Bool.{Bool, true, false, cond, not, ◌&&◌, ◌||◌}
use lib.Dec.{ltb, eqb}
use borrow.Author.Tests.{le-ltb, ltb-false, ne_eqb}
use Rattle.limits.specs.Limits.{MOST_ROWS, MOST_ITEMS, MOST_ENTRIES, MOST_BYTES}
use Rattle.encode.specs.declared.Kind.{Kind}
use Rattle.encode.specs.declared.Kind.TheVariants.{Fixed, Char, Blob}
use Rattle.encode.proofs.Bools.{or-none, neither}
use Rattle.nullable.specs.Nullable.{bitmap_length}
use Rattle.format.specs.declared.Encoding.{Encoding}
use Rattle.format.specs.declared.Encoding.TheVariants.{Plain, Nullable, RunLength, RunLengthNullable, Dictionary}
use Rattle.needs.specs.declared.Counted.{Counted}
use Rattle.needs.specs.declared.Room.{Room}
use Rattle.needs.specs.Needs.{coded, flagged, keyed, stored_by, plain_bytes, inner_bytes, run_bytes, finished_bytes, counts_past, past_limits, fields_short, runs_short, too_short}
use Rattle.needs.proofs.Short.{fitting}
use Rattle.step.specs.Counting.{growth, grown}

pub record NoLess (r s : Counted) : Type 0 where
  pub rows : r.rows ≤ s.rows
  pub runs : r.runs ≤ s.runs
  pub entries : r.entries ≤ s.entries
  pub bytes : r.bytes ≤ s.bytes
  pub counts : r.counts ≤ s.counts

pub no-less-itself : (r : Counted) → NoLess r r
no-less-itself r = record { rows = omega arith; runs = omega arith; entries = omega arith; bytes = omega arith; counts = omega arith }

pub no-less-then : {r s t : Counted} → NoLess r s → NoLess s t → NoLess r t
no-less-then {r} {s} {t} p q = record {
  rows = omega (arith, p.rows, q.rows);
  runs = omega (arith, p.runs, q.runs);
  entries = omega (arith, p.entries, q.entries);
  bytes = omega (arith, p.bytes, q.bytes);
  counts = omega (arith, p.counts, q.counts);
}

-- one row more, whatever is found for it
if-more : (b : Bool) (n m : ℕ) → n ≤ m → n ≤ cond b m n
if-more true n m h = h
if-more false n m h = omega arith

pub grown-no-less : (e : Encoding) (r : Counted) (bit len : ℕ) (item joins : Bool) → NoLess r (grown e r bit len item joins)
unfolding grown
grown-no-less e r bit len item joins = record {
  rows = omega arith;
  runs = if-more (coded e && not joins) r.runs (r.runs + 1) (omega arith);
  entries = if-more (keyed e && item) r.entries (r.entries + 1) (omega arith);
  bytes = if-more item r.bytes (r.bytes + len) (omega arith);
  counts = if-more (coded e) r.counts (r.counts + cond joins (growth r.last) 1) (omega arith);
}

-- ---- the lengths
bitmap-longer : (n m : ℕ) → n ≤ m → bitmap_length n ≤ bitmap_length m
unfolding bitmap_length
bitmap-longer n m h = omega arith

both_of : (b : Bool) (n m x y : ℕ) → n ≤ x → m ≤ y → cond b n m ≤ cond b x y
both_of true n m x y p q = p
both_of false n m x y p q = q

pub stored-no-less : (e : Encoding) (r s : Counted) → NoLess r s → stored_by e r ≤ stored_by e s
unfolding stored_by
stored-no-less e r s h =
    both_of (keyed e) r.entries (cond (coded e) r.runs r.rows) s.entries (cond (coded e) s.runs s.rows) h.entries
    (both_of (coded e) r.runs r.rows s.runs s.rows h.runs h.rows)

plain-longer : (k : Kind) (n m x y : ℕ) → n ≤ m → x ≤ y → plain_bytes k n x ≤ plain_bytes k m y
unfolding plain_bytes
plain-longer (Fixed p) n m x y h g = g
plain-longer (Char w) n m x y h g = g
plain-longer (Blob text) n m x y h g = omega arith

inner-longer : (k : Kind) (e : Encoding) (r s : Counted) → NoLess r s → inner_bytes k e r ≤ inner_bytes k e s
unfolding inner_bytes
inner-longer k e r s h =
    let n = stored-no-less e r s h in
    let p = plain-longer k (stored_by e r) (stored_by e s) r.bytes s.bytes n h.bytes in
    let b = bitmap-longer (stored_by e r) (stored_by e s) n in
    let f = both_of (flagged e) (bitmap_length (stored_by e r) + 4) 0 (bitmap_length (stored_by e s) + 4) 0 (omega arith) (omega arith) in
    omega (arith, p, f)

run-longer : (r s : Counted) (x y : ℕ) → NoLess r s → x ≤ y → run_bytes r x ≤ run_bytes s y
unfolding run_bytes
run-longer r s x y h g = go r.runs s.runs h.runs
  where
    go : (n m : ℕ) → n ≤ m → cond (eqb n 0) 0 (8 + r.counts + x) ≤ cond (eqb m 0) 0 (8 + s.counts + y)
    go zero m l = omega arith
    go (suc n) zero l = absurd (omega arith)
    go (suc n) (suc m) l =
        let c = h.counts in
        let z : 8 + r.counts + x ≤ 8 + s.counts + y = omega arith in
        rw (ne_eqb (suc n) 0 (λ (q : suc n ≡ 0). omega (arith, q)), ne_eqb (suc m) 0 (λ (q : suc m ≡ 0). omega (arith, q))) z

finished-longer : (k : Kind) (e : Encoding) (r s : Counted) → NoLess r s → finished_bytes k e r ≤ finished_bytes k e s
unfolding finished_bytes
finished-longer k Plain r s h = inner-longer k Plain r s h
finished-longer k Nullable r s h = inner-longer k Nullable r s h
finished-longer k RunLength r s h = run-longer r s _ _ h (inner-longer k RunLength r s h)
finished-longer k RunLengthNullable r s h = run-longer r s _ _ h (inner-longer k RunLengthNullable r s h)
finished-longer k Dictionary r s h =
    let n = h.runs in
    let a = run-longer r s (4 * r.runs) (4 * s.runs) h (omega arith) in
    let b = inner-longer k Dictionary r s h in
    omega (arith, a, b)

-- ---- within the limits, and with room
module _ (k : Kind) (e : Encoding) (r s : Counted) (h : NoLess r s) where
  few-then : (b : Bool) (most n m : ℕ) → n ≤ m → (b && ltb most m) ≡ false → (b && ltb most n) ≡ false
  few-then true most n m l q = let g = ltb-false most m q in le-ltb most n (omega arith)
  few-then false most n m l q = refl

  pub within-before : past_limits k e s ≡ false → past_limits k e r ≡ false
  unfolding past_limits counts_past
  within-before q =
      let a = neither (counts_past e s) (ltb MOST_BYTES (finished_bytes k e s)) q in
      let b = neither (ltb MOST_ROWS s.rows || ltb MOST_ITEMS (cond (coded e) s.runs s.rows)) (keyed e && ltb MOST_ENTRIES s.entries) a.0 in
      let c = neither (ltb MOST_ROWS s.rows) (ltb MOST_ITEMS (cond (coded e) s.runs s.rows)) b.0 in
      or-none
      (or-none
      (or-none (few-then true MOST_ROWS r.rows s.rows h.rows c.0)
      (few-then true MOST_ITEMS (cond (coded e) r.runs r.rows) (cond (coded e) s.runs s.rows)
      (both_of (coded e) r.runs r.rows s.runs s.rows h.runs h.rows) c.1))
      (few-then (keyed e) MOST_ENTRIES r.entries s.entries h.entries b.1))
      (few-then true MOST_BYTES (finished_bytes k e r) (finished_bytes k e s) (finished-longer k e r s h) a.1)

  short-then : (b : Bool) (room n m : ℕ) → n ≤ m → (b ≡ true → m ≤ room) → (b && ltb room n) ≡ false
  short-then true room n m l g = let z = g refl in le-ltb room n (omega arith)
  short-then false room n m l g = refl

  fields-then : (m : Room) → fields_short k (stored_by e s) m ≡ false → fields_short k (stored_by e r) m ≡ false
  unfolding fields_short
  fields-then m q = go k (stored-no-less e r s h) q
    where
      go : (k : Kind) → stored_by e r ≤ stored_by e s → fields_short k (stored_by e s) m ≡ false → fields_short k (stored_by e r) m ≡ false
      go (Fixed p) l q = refl
      go (Char w) l q = let g = ltb-false m.lens (stored_by e s) q in le-ltb m.lens (stored_by e r) (omega arith)
      go (Blob text) l q = let g = ltb-false m.ends (stored_by e s) q in le-ltb m.ends (stored_by e r) (omega arith)

  pub room-before : (m : Room) → too_short k e s m ≡ false → too_short k e r m ≡ false
  unfolding too_short runs_short
  room-before m q =
      let f = fitting k e s m q in
      or-none
      (or-none
      (or-none (short-then true m.items r.bytes s.bytes h.bytes (λ t. f.items)) (fields-then m f.fields))
      (short-then (flagged e) m.flags (bitmap_length (stored_by e r)) (bitmap_length (stored_by e s))
      (bitmap-longer (stored_by e r) (stored_by e s) (stored-no-less e r s h)) f.flags))
      (or-none (short-then (coded e) m.counts r.runs s.runs h.runs f.counts)
      (short-then (keyed e) m.keys r.runs s.runs h.runs f.keys))
