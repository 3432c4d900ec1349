-- A reader that opening gave, or that calls reached from there: which rows are left, and that nothing refuses them as 9. Assumes nothing.
use Rattle.std.specs.Prelude.{Some, Ok}
use Prim.Native.Nat.{ℕ, zero, suc, ◌+◌, ◌-◌, ◌*◌, ◌≤◌, ◌<◌}
use native.Mathlib.Nat.{zero-add}
use native.Mathlib.Omega.{arith}
use mathlib.Core.Bool.{Bool, true, false, not, ◌&&◌}
use mathlib.Core.List.{List, [], ◌∷◌, ◌++◌}
use mathlib.Core.Logic.{◌⊎◌, ⊎_elim}
use mathlib.Core.Path.{◌≡◌, refl, sym, ap, ◌∙◌}
use lib.ListN.{length, take, drop, length-drop}
use lib.Seq.{take_at, drop_at, length-take-le}
use borrow.Author.Tests.{lt-ltb, le-ltb, eq-eqb}
use Rattle.limits.specs.Limits.{MOST_ITEMS, MOST_ENTRIES, MOST_BYTES}
use Rattle.encode.specs.declared.Kind.{Kind}
use Rattle.plain.specs.Plain.{all_of, places, plain_number, least_bytes, ends_good}
use Rattle.plain.proofs.Numbers.{plain-least, plain-good}
use Rattle.plain.proofs.Places.{length-places, places-add}
use Rattle.nullable.specs.Nullable.{bitmap_length, plain_part, nullable_number}
use Rattle.nullable.proofs.Parts as NullableParts
use Rattle.rle.specs.declared.Spot.{Spot}
use Rattle.rle.specs.RunLength.{inner_part, walked, run_numbers, counts_part}
use Rattle.rle.specs.Stepping.{spot, rows, steps_from}
use Rattle.rle.proofs.Steps.{Below, Parts, steps-parts, steps-length, steps-below}
use Rattle.rle.proofs.Whole.{whole-steps}
use Rattle.dict.specs.Dictionary.{i32, key_part, entries_part, slot_at, entry_good}
use Rattle.dict.proofs.Slots.{known_at}
use Rattle.format.specs.declared.Head.{Head}
use Rattle.format.specs.declared.Encoding.{Encoding}
use Rattle.format.specs.declared.Encoding.TheVariants.{Plain, Nullable, RunLength, RunLengthNullable, Dictionary}
use Rattle.format.specs.Blocks.{column_of, column}
use Rattle.format.specs.Opening.{head_of, counts_in, places_of, most_rows, column_number}
use Rattle.format.proofs.Sound.{Within, NoRuns, SomeRuns, SoundRuns, column-sound}
use Rattle.format.proofs.Sound.{plain-sound, nullable-sound, run-length-sound, run-length-nullable-sound, keys-sound}
use Rattle.block.specs.declared.Reader.{Reader}
use Rattle.encode.proofs.Bools.{both}
use Rattle.anatomy.specs.Tests.{no_runs, runs_outside, part_outside, runs_wrong, head_wrong, row_good}
use Rattle.block.specs.Reading.{reader_at, wrong, next_steps, moved, counted}
use Rattle.block.specs.Calls.{column_in}
use Rattle.block.proofs.RecordTests.{RightRecord}
use Rattle.block.proofs.MovedReader.{runs-kept, moved-right}

-- ---- rule 14 and rule 15 of some rows
module _ (good : ℕ → Bool) where
  each-good : (n : ℕ) → ((i : ℕ) → i < n → good i ≡ true) → (is : List ℕ) → Below n is → all_of good is ≡ true
  unfolding all_of
  each-good n h [] l = refl
  each-good n h (i ∷ is) l = rw (h i l.0) (each-good n h is l.1)

  pub take-good : (m : ℕ) (is : List ℕ) → all_of good is ≡ true → all_of good (take m is) ≡ true
  unfolding all_of
  take-good zero is h = refl
  take-good (suc m) [] h = refl
  take-good (suc m) (i ∷ is) h = let p = both (good i) (all_of good is) h in rw p.0 (take-good m is p.1)

  drop-good : (m : ℕ) (is : List ℕ) → all_of good is ≡ true → all_of good (drop m is) ≡ true
  unfolding all_of
  drop-good zero is h = h
  drop-good (suc m) [] h = refl
  drop-good (suc m) (i ∷ is) h = drop-good m is (both (good i) (all_of good is) h).1

-- ---- places
pub below-places : (n i m : ℕ) → i + n ≤ m → Below m (places n i)
unfolding places
below-places zero i m h = tt
below-places (suc n) i m h = (omega arith, below-places n (suc i) m (omega arith))

places-parts : (n m i : ℕ) → m ≤ n → (take m (places n i) ≡ places m i) × (drop m (places n i) ≡ places (n - m) (i + m))
places-parts n m i h =
    let e : n ≡ m + (n - m) = omega arith in
    let p : places n i ≡ places m i ++ places (n - m) (i + m) = ap (λ (j : ℕ). places j i) e ∙ places-add m (n - m) i in
    rw p (take_at (places m i) (places (n - m) (i + m)) m (length-places m i), drop_at (places m i) (places (n - m) (i + m)) m (length-places m i))

-- ---- a reader that stands well, with the rows at the places `is` left
pub record Stands (k : Kind) (e : Encoding) (n : ℕ) (b : List ℕ) (r : Reader) (is : List ℕ) : Type 0 where
  pub column : column_in r ≡ Some (column k e)
  pub size : r.rows ≡ n
  pub head : r.head ≡ head_of e b
  pub long : length b ≡ r.len
  pub right : RightRecord k e r
  pub end : Spot
  pub left : next_steps e r b (length is) ≡ rows is end
  pub count : length is ≡ r.rows - r.place
  pub good : all_of (row_good k e r.rows r.head b) is ≡ true

-- nothing contradicts
pub not-wrong : (k : Kind) (e : Encoding) (r : Reader) → RightRecord k e r → wrong k e r ≡ false
unfolding wrong
not-wrong k e r w =
    let v = w.numbers in
    simp (
      le-ltb MOST_BYTES r.len v.size,
      le-ltb (most_rows e) r.rows v.rows,
      le-ltb r.rows r.place w.place,
      le-ltb r.place r.nulls w.nulls,
      v.head,
      v.parts,
    )

-- ---- some of the rows left, and the reader after them
record Next (e : Encoding) (r : Reader) (b : List ℕ) (m : ℕ) (is : List ℕ) : Type 0 where
  mid : Spot
  first : next_steps e r b m ≡ rows (take m is) mid
  end : Spot
  rest : next_steps e (moved r m mid) b (length (drop m is)) ≡ rows (drop m is) end

module _ (runs : ℕ) (counts : List ℕ) (s : Spot) (m : ℕ) (is : List ℕ) (t : Spot) (h : m ≤ length is)
    (q : steps_from runs counts (length is) s ≡ rows is t) where
  coded : Parts (steps_from runs counts) m (length is - m) s is t
  coded =
      let e : m + (length is - m) ≡ length is = omega arith in
      steps-parts runs counts m (length is - m) s (ap (λ (j : ℕ). steps_from runs counts j s) e ∙ q)

  coded-rest : steps_from runs counts (length (drop m is)) coded.mid ≡ rows (drop m is) t
  coded-rest = rw (length-drop m is) coded.rest

alone : (r : Reader) (m : ℕ) (is : List ℕ) (t : Spot) → m ≤ length is → rows (places (length is) r.place) r.spot ≡ rows is t
    → (places m r.place ≡ take m is) × (places (length (drop m is)) (r.place + m) ≡ drop m is)
alone r m is t h q =
    let e : places (length is) r.place ≡ is = cc in
    let p = places-parts (length is) m r.place h in
    (sym p.0 ∙ ap (take m) e, rw (length-drop m is) (sym p.1 ∙ ap (drop m) e))

module _ (r : Reader) (b : List ℕ) (m : ℕ) (is : List ℕ) (t : Spot) (h : m ≤ length is) where
  -- by their runs
  next-coded : (e : Encoding) → ((j : ℕ) (x : Reader) → next_steps e x b j ≡ steps_from x.head.runs (counts_in e x.head b) j x.spot)
      → next_steps e r b (length is) ≡ rows is t → Next e r b m is
  next-coded e by q =
      let p = sym (by (length is) r) ∙ q in
      let counts = counts_in e r.head b in
      let c = coded r.head.runs counts r.spot m is t h p in
      record {
        mid = c.mid;
        first = by m r ∙ c.first;
        end = t;
        rest = by (length (drop m is)) (moved r m c.mid) ∙ coded-rest r.head.runs counts r.spot m is t h p;
      }

  -- and alone
  next-alone : (e : Encoding) → ((j : ℕ) (x : Reader) → next_steps e x b j ≡ rows (places j x.place) x.spot)
      → next_steps e r b (length is) ≡ rows is t → Next e r b m is
  next-alone e by q =
      let p = alone r m is t h (sym (by (length is) r) ∙ q) in
      record { mid = r.spot; first = by m r ∙ rw p.0; end = r.spot; rest = by (length (drop m is)) (moved r m r.spot) ∙ rw p.1 }

  next : (e : Encoding) → next_steps e r b (length is) ≡ rows is t → Next e r b m is
  unfolding next_steps
  next Plain = next-alone Plain (λ j x. refl)
  next Nullable = next-alone Nullable (λ j x. refl)
  next RunLength = next-coded RunLength (λ j x. refl)
  next RunLengthNullable = next-coded RunLengthNullable (λ j x. refl)
  next Dictionary = next-coded Dictionary (λ j x. refl)

pub record Later (k : Kind) (e : Encoding) (n : ℕ) (b : List ℕ) (r : Reader) (is : List ℕ) (m : ℕ) : Type 0 where
  pub mid : Spot
  pub first : next_steps e r b m ≡ rows (take m is) mid
  pub stands : Stands k e n b (moved r m mid) (drop m is)

pub later : {k : Kind} {e : Encoding} {n : ℕ} {b : List ℕ} {r : Reader} {is : List ℕ} → Stands k e n b r is → (m : ℕ) → m ≤ length is
    → Later k e n b r is m
later {k} {e} {n} {b} {r} {is} g m h =
    let x = next r b m is g.end h e g.left in
    let w = g.right in
    record {
      mid = x.mid;
      first = x.first;
      stands = record {
        column = g.column;
        size = g.size;
        head = g.head;
        long = g.long;
        right = moved-right k r b m e w (omega (arith, g.count)) x.first;
        end = x.end;
        left = x.rest;
        count = length-drop m is ∙ omega (arith, g.count, w.place);
        good = drop-good (row_good k e r.rows r.head b) m is g.good;
      };
    }

-- ---- a reader whose nulls are counted stands where it stood
same-steps : (e : Encoding) (r : Reader) (b : List ℕ) (m z : ℕ) → next_steps e (counted r z) b m ≡ next_steps e r b m
unfolding next_steps
same-steps Plain r b m z = refl
same-steps Nullable r b m z = refl
same-steps RunLength r b m z = refl
same-steps RunLengthNullable r b m z = refl
same-steps Dictionary r b m z = refl

pub counted-stands : {k : Kind} {e : Encoding} {n : ℕ} {b : List ℕ} {r : Reader} {is : List ℕ} → Stands k e n b r is → (z : ℕ) → r.nulls + z ≤ r.place
    → Stands k e n b (counted r z) is
counted-stands {k} {e} {n} {b} {r} {is} g z h =
    record {
      column = g.column;
      size = g.size;
      head = g.head;
      long = g.long;
      right = record { place = g.right.place; nulls = h; numbers = g.right.numbers };
      end = g.end;
      left = same-steps e r b (length is) z ∙ g.left;
      count = g.count;
      good = g.good;
    }

-- ---- the reader that opening gave
-- what is to be shown of each encoding
record Starts (k : Kind) (e : Encoding) (n : ℕ) (b : List ℕ) (r : Reader) (is : List ℕ) : Type 0 where
  head : head_wrong e r.head 0 ≡ false
  parts : part_outside k e r.rows r.len r.head ≡ false
  end : Spot
  all : length is ≡ n
  left : next_steps e r b n ≡ rows is end
  good : all_of (row_good k e r.rows r.head b) is ≡ true

inner-long : (c : ℕ) (b : List ℕ) → length (inner_part c b) ≡ length b - (8 + c)
unfolding inner_part
inner-long c b = length-drop (8 + c) b

module _ (k : Kind) (m : ℕ) (b : List ℕ) (s : nullable_number k m b ≡ 0) where
  nullable-least : least_bytes k m + (bitmap_length m + 4) ≤ length b
  nullable-least =
      let p = NullableParts.sound k m b s in
      let l = plain-least k m (plain_part m b) p.plain in
      omega (arith, NullableParts.length-plain-part m b p.room, p.room)

  nullable-good : (i : ℕ) → i < m → ends_good k m (plain_part m b) i ≡ true
  nullable-good i l = plain-good k m (plain_part m b) (NullableParts.sound k m b s).plain i l

-- no runs and no counts, or parts that fit
module _
    (inner : ℕ → List ℕ → ℕ) (n : ℕ) (b : List ℕ) (h : Head) (least : ℕ → ℕ) (fit : (m : ℕ) (s : List ℕ) → inner m s ≡ 0 → least m ≤ length s)
    (room : ℕ) (same : length b ≡ room)
  where
    runs_fit : NoRuns n b h.runs h.counts ⊎ SomeRuns inner b h.runs h.counts → runs_outside room h (least h.runs) ≡ false
    unfolding no_runs runs_outside
    runs_fit x = ⊎_elim
        (λ (z : NoRuns n b h.runs h.counts). simp (eq-eqb h.runs 0 z.no-runs, eq-eqb h.counts 0 z.no-counts))
        (λ (z : SomeRuns inner b h.runs h.counts).
        let f = fit h.runs (inner_part h.counts b) z.inside in
        let l : 8 + h.counts + least h.runs ≤ room = omega (arith, inner-long h.counts b, z.room) in
        rw (le-ltb room (8 + h.counts + least h.runs) l) (never (no_runs h)))
        x
      where
        never : (t : Bool) → (not t && false) ≡ false
        never true = refl
        never false = refl

-- the rows in their runs
module _ (runs n : ℕ) (counts : List ℕ) (q : walked runs counts ≡ Ok n) where
  run-rows : (t : Spot) × (steps_from runs counts n (spot 0 0 0) ≡ rows (run_numbers runs 0 counts) t)
  run-rows = whole-steps runs counts n q

  run-count : length (run_numbers runs 0 counts) ≡ n
  run-count = steps-length runs counts n (spot 0 0 0) run-rows.1

  pub run-below : Below runs (run_numbers runs 0 counts)
  run-below = steps-below runs counts n (spot 0 0 0) run-rows.1

runs-start : (h : Head) → h.runs ≤ MOST_ITEMS → runs_wrong h 0 ≡ false
runs-start h m = runs-kept h 0 m (omega arith)

-- a key that is known, and its entry's ends
entry-good : (k : Kind) (entries : ℕ) (part : List ℕ) → plain_number k entries part ≡ 0 → (s : ℕ) → s ≤ entries → entry_good k entries part s ≡ true
unfolding entry_good
entry-good k entries part q zero h = refl
entry-good k entries part q (suc i) h = rw (lt-ltb i entries (omega arith)) (plain-good k entries part q i (omega arith))

-- where there is a run, there is an inner block
pub inside_of : (inner : ℕ → List ℕ → ℕ) {n : ℕ} {b : List ℕ} {runs counts : ℕ} → SoundRuns inner n b runs counts → (i : ℕ) → i < runs
    → inner runs (inner_part counts b) ≡ 0
inside_of inner {n} {b} {runs} {counts} s i l = ⊎_elim
    (λ (z : NoRuns n b runs counts). absurd (omega (arith, z.no-runs)))
    (λ (z : SomeRuns inner b runs counts). z.inside)
    s.either

i32-least : (m : ℕ) (s : List ℕ) → plain_number i32 m s ≡ 0 → 4 * m ≤ length s
unfolding least_bytes
i32-least m s q = omega (arith, plain-least i32 m s q)

key-long : (keys : ℕ) (b : List ℕ) → 12 + keys ≤ length b → length (key_part keys b) ≡ keys
unfolding key_part
key-long keys b h = length-take-le keys (drop 12 b) (simp length-drop (omega arith))

entries-long : (keys : ℕ) (b : List ℕ) → length (entries_part keys b) ≡ length b - (12 + keys)
unfolding entries_part
entries-long keys b = length-drop (12 + keys) b

module _ (k : Kind) (n : ℕ) (b : List ℕ) (kind encoding width : ℕ) where
  abbrev first : Encoding → Reader
  first e = reader_at kind encoding width n (length b) (head_of e b)

  starts : (e : Encoding) → Within k e n b → Starts k e n b (first e) (places_of e n (head_of e b) b)
  unfolding head_wrong part_outside next_steps row_good places_of counts_in
  starts Plain w =
      let s = plain-sound k n b w.rules in
      record {
        head = refl;
        parts = le-ltb (length b) (least_bytes k n) (plain-least k n b s);
        end = spot 0 0 0;
        all = length-places n 0;
        left = refl;
        good = each-good (row_good k Plain n (head_of Plain b) b) n (λ i l. plain-good k n b s i l) (places n 0) (below-places n 0 n (omega arith));
      }
  starts Nullable w =
      let s = nullable-sound k n b w.rules in
      record {
        head = refl;
        parts = le-ltb (length b) (least_bytes k n + (bitmap_length n + 4)) (nullable-least k n b s);
        end = spot 0 0 0;
        all = length-places n 0;
        left = refl;
        good = each-good (row_good k Nullable n (head_of Nullable b) b) n (λ i l. nullable-good k n b s i l) (places n 0) (below-places n 0 n (omega arith));
      }
  starts RunLength w =
      let s = run-length-sound k n b w.rules in
      let r = first RunLength in
      let counts = counts_part r.head.counts b in
      record {
        head = runs-start r.head s.many;
        parts = runs_fit (plain_number k) n b r.head (least_bytes k) (plain-least k) (length b) refl s.either;
        end = (run-rows r.head.runs n counts s.sum).0;
        all = run-count r.head.runs n counts s.sum;
        left = (run-rows r.head.runs n counts s.sum).1;
        good = each-good (row_good k RunLength r.rows r.head b) r.head.runs
            (λ i l. plain-good k r.head.runs (inner_part r.head.counts b) (inside_of (plain_number k) s i l) i l)
            (run_numbers r.head.runs 0 counts) (run-below r.head.runs n counts s.sum);
      }
  starts RunLengthNullable w =
      let s = run-length-nullable-sound k n b w.rules in
      let r = first RunLengthNullable in
      let counts = counts_part r.head.counts b in
      record {
        head = runs-start r.head s.many;
        parts = runs_fit (nullable_number k) n b r.head (λ m. least_bytes k m + (bitmap_length m + 4)) (nullable-least k) (length b) refl s.either;
        end = (run-rows r.head.runs n counts s.sum).0;
        all = run-count r.head.runs n counts s.sum;
        left = (run-rows r.head.runs n counts s.sum).1;
        good = each-good (row_good k RunLengthNullable r.rows r.head b) r.head.runs
            (λ i l. nullable-good k r.head.runs (inner_part r.head.counts b) (inside_of (nullable_number k) s i l) i l)
            (run_numbers r.head.runs 0 counts) (run-below r.head.runs n counts s.sum);
      }
  starts Dictionary w =
      let d = keys-sound k n b w.rules in
      let s = d.parts.key-runs in
      let r = first Dictionary in
      let part = key_part r.head.keys b in
      let counts = counts_part r.head.counts part in
      let inside = entries_part r.head.keys b in
      let f : 12 + r.head.keys + least_bytes k r.head.entries ≤ length b =
      omega (arith, plain-least k r.head.entries inside d.parts.entries-inside, entries-long r.head.keys b, d.parts.head-room) in
      let u = runs_fit (plain_number i32) n part r.head (λ m. 4 * m) i32-least r.head.keys (key-long r.head.keys b d.parts.head-room) s.either in
      record {
        head = simp (runs-start r.head s.many, le-ltb MOST_ENTRIES r.head.entries d.parts.few);
        parts = simp (le-ltb (length b) (12 + r.head.keys + least_bytes k r.head.entries) f, u);
        end = (run-rows r.head.runs n counts s.sum).0;
        all = run-count r.head.runs n counts s.sum;
        left = (run-rows r.head.runs n counts s.sum).1;
        good = each-good (row_good k Dictionary r.rows r.head b) r.head.runs
            (λ i l. entry-good k r.head.entries inside d.parts.entries-inside (slot_at (inner_part r.head.counts part) i)
            (rw zero-add at (known_at r.head.entries (inner_part r.head.counts part) r.head.runs 0 i d.all_known l)))
            (run_numbers r.head.runs 0 counts) (run-below r.head.runs n counts s.sum);
      }

  pub start : (e : Encoding) → column_of kind encoding width ≡ Some (column k e) → column_number (Some (column k e)) n b ≡ 0
      → Stands k e n b (reader_at kind encoding width n (length b) (head_of e b)) (places_of e n (head_of e b) b)
  start e c q =
      let w = column-sound k e n b q in
      let x = starts e w in
      record {
        column = c;
        size = refl;
        head = refl;
        long = refl;
        right = record { place = omega arith; nulls = omega arith; numbers = record { size = w.size; rows = w.most; head = x.head; parts = x.parts } };
        end = x.end;
        left = rw x.all x.left;
        count = x.all ∙ omega arith;
        good = x.good;
      }
