-- Areas with slots for so many more runs and stored items than the record counts as n equal rows come to at most are long enough for n rows more, whichever
-- they are. Assumes nothing.
use Prim.Native.Nat.{ℕ, zero, suc, ◌+◌, ◌*◌, ◌≤◌, ◌<◌, min}
use native.Mathlib.Nat.{mul-le-mul}
use native.Mathlib.Omega.{arith}
use mathlib.Core.Bool.{Bool, true, false, cond, ◌&&◌}
use mathlib.Core.List.{List, [], ◌∷◌, ◌++◌, append_assoc, append-nil}
use mathlib.Core.Logic.{◌⊎◌, inl, inr}
use mathlib.Core.Path.{◌≡◌, refl, sym, ap, ◌∙◌}
use lib.Dec.{ltb}
use lib.IntN.{ℤ}
use lib.ListN.{length, replicate, length-append, length-replicate}
use borrow.Author.Tests.{ltb-false}
use Rattle.limits.specs.Limits.{MOST_COUNT}
use Rattle.encode.specs.declared.Kind.{Kind}
use Rattle.plain.specs.Rows.{Row}
use Rattle.plain.specs.Plain.{joined, item_of}
use Rattle.nullable.specs.Nullable.{bitmap_length, presence}
use Rattle.format.specs.declared.Encoding.{Encoding}
use Rattle.format.specs.declared.Encoding.TheVariants.{Plain, Nullable, RunLength, RunLengthNullable, Dictionary}
use Rattle.needs.specs.declared.Counted.{Counted}
use Rattle.needs.specs.Needs.{coded, flagged, keyed, stored_by}
use Rattle.needs.proofs.Encodings.{keyed-coded}
use Rattle.step.specs.Steps.{run_open}
use Rattle.step.specs.Counting.{grown}
use Rattle.append.specs.Appending.{Lent, room_of}
use Rattle.copies.specs.Copies.{stage, one_more, joins_again, stores_again, times}
use Rattle.copies.specs.Stretch.{grown_again, grown_times}
use Rattle.copies.proofs.Stretches.{counted-more}
use Rattle.building_laws.specs.Built.{stored_rows, stored_runs, Enough}
use Rattle.building_laws.proofs.Lists.{joined-append}
use Rattle.building_laws.proofs.OneRowMore.{joins_by, item_by, key_by, items-next, ends-least, lens-least, flags-least}
use Rattle.building_laws.proofs.Records.{Recorded, stored-by}
use Rattle.any_building_laws.specs.BuilderCalls.{need_of, below, runs_more, items_more, SlotsFor}
use Rattle.any_building_laws.proofs.Room.{below-told}
use Rattle.any_building_laws.proofs.Carrying.{if-long}
use Rattle.any_building_laws.proofs.Copies.{copies_by, copies-recorded}

-- ---- the stored items: those before, and then some copies of the row
module _ (e : Encoding) (x : Row) where
  abbrev Copied : List Row → List Row → Type 0
  Copied s t = (i : ℕ) × (t ≡ s ++ replicate i x)

  one-copied : (item : Bool) (s t : List Row) → Copied (cond item (s ++ (x ∷ [])) s) t → Copied s t
  one-copied true s t h = (suc h.0, h.1 ∙ append_assoc s (x ∷ []) (replicate h.0 x))
  one-copied false s t h = h

  stored-copies : (n : ℕ) (rows : List Row) → Copied (stored_rows e rows) (stored_rows e (rows ++ replicate n x))
  stored-copies zero rows = (0, ap (stored_rows e) (append-nil rows) ∙ sym (append-nil (stored_rows e rows)))
  stored-copies (suc n) rows =
      one-copied (item_by e rows x) (stored_rows e rows) (stored_rows e (rows ++ (x ∷ replicate n x)))
      (rw (← items-next e rows x, ← append_assoc rows (x ∷ []) (replicate n x)) (stored-copies n (rows ++ (x ∷ []))))

copies_length : (f : Row → List ℕ) (i : ℕ) (x : Row) → length (joined f (replicate i x)) ≡ i * length (f x)
unfolding joined
copies_length f zero x = omega arith
copies_length f (suc i) x = omega (arith, length-append (f x) (joined f (replicate i x)), copies_length f i x)

-- where rows are not coded by runs there are none
runs-only : (e : Encoding) (rows : List Row) → cond (coded e) (length (stored_runs e rows)) 0 ≡ length (stored_runs e rows)
unfolding coded stored_runs
runs-only Plain rows = refl
runs-only Nullable rows = refl
runs-only RunLength rows = refl
runs-only RunLengthNullable rows = refl
runs-only Dictionary rows = refl

-- ---- the numbers: runs and entries
module _ (e : Encoding) (bit len : ℕ) (c : Counted) where
  -- after m rows there is no run more; or of those that are, all but the last are full
  abbrev FewRuns : ℕ → Counted → Type 0
  FewRuns m s = (s.runs ≤ c.runs) ⊎ ((0 < s.runs) × (0 < s.last) × (MOST_COUNT * s.runs + s.last ≤ MOST_COUNT * c.runs + MOST_COUNT + m))

  -- one row more, which begins a run only where there is none more yet, or the last one is full
  few-then : coded e ≡ true → (item joins : Bool) (m : ℕ) (s : Counted) → FewRuns m s → (joins ≡ false → (s.runs ≤ c.runs) ⊎ (MOST_COUNT ≤ s.last))
      → FewRuns (suc m) (grown e s bit len item joins)
  unfolding grown
  few-then t item true m s (inl p) h = inl (rw t p)
  few-then t item true m s (inr p) h = inr (rw t (p.0, omega arith, omega (arith, p)))
  few-then t item false m s f h = inr (rw t (omega arith, omega arith, go f (h refl)))
    where
      go : FewRuns m s → (s.runs ≤ c.runs) ⊎ (MOST_COUNT ≤ s.last) → MOST_COUNT * (s.runs + 1) + 1 ≤ MOST_COUNT * c.runs + MOST_COUNT + suc m
      go (inl p) q = omega (arith, p)
      go (inr p) (inl q) = omega (arith, q)
      go (inr p) (inr q) = omega (arith, p, q)

  full : (s : Counted) → run_open s ≡ false → (s.runs ≤ c.runs) ⊎ (MOST_COUNT ≤ s.last)
  unfolding run_open
  full s h = go (ltb 0 s.runs) refl h
    where
      go : (t : Bool) → ltb 0 s.runs ≡ t → (t && ltb s.last MOST_COUNT) ≡ false → (s.runs ≤ c.runs) ⊎ (MOST_COUNT ≤ s.last)
      go true p q = inr (ltb-false s.last MOST_COUNT q)
      go false p q = inl (let z = ltb-false 0 s.runs p in omega arith)

  few-again : coded e ≡ true → (n m : ℕ) (s : Counted) → FewRuns m s → FewRuns (m + n) (grown_times e bit len n s)
  unfolding grown_times grown_again joins_again
  few-again t zero m s h = let z : m + 0 ≡ m = omega arith in rw z h
  few-again t (suc n) m s h =
      let z : m + suc n ≡ suc m + n = omega arith in
      let o = few-then t (stores_again e s) (joins_again e s) m s h (λ q. full s (rw t at q)) in
      rw z (few-again t n (suc m) (grown_again e bit len s) o)

  few-runs : (m : ℕ) (s : Counted) → FewRuns m s → s.runs ≤ c.runs + runs_more m
  unfolding runs_more
  few-runs m s (inl p) = omega arith
  few-runs m s (inr p) = omega (arith, p)

  -- an entry is stored once
  same_entries : keyed e ≡ true → (n : ℕ) (s : Counted) → (grown_times e bit len n s).entries ≡ s.entries
  unfolding grown_times grown_again stores_again grown
  same_entries t zero s = refl
  same_entries t (suc n) s = same_entries t n (grown_again e bit len s) ∙ rw t

-- a sum, by one test
either-sum : (t : Bool) (a b c x y z : ℕ) → (t ≡ true → a ≤ c + x) → b ≤ y + z → cond t a b ≤ cond t c y + cond t x z
either-sum true a b c x y z h g = h refl
either-sum false a b c x y z h g = g

at_most : (t : Bool) (m : ℕ) → cond t (m + 1) m ≤ m + 1
at_most true m = omega arith
at_most false m = omega arith

-- the first row as it is found, and the others behind it
module _ (k : Kind) (e : Encoding) (x : Row) (item joins : Bool) (key : ℤ) (c : Counted) (a : Lent) where
  abbrev after : ℕ → Counted
  after n = (times k e x item joins key n (stage c a)).counted

  abbrev first : Counted
  first = grown e c (presence x) (length (item_of k x)) item joins

  then-again : (n : ℕ) → after (suc n) ≡ grown_times e (presence x) (length (item_of k x)) n first
  unfolding times one_more
  then-again n = counted-more k e x key n (one_more k e x item joins key (stage c a))

  runs-most : coded e ≡ true → (n : ℕ) → (after n).runs ≤ c.runs + runs_more n
  unfolding times
  runs-most t zero = omega arith
  runs-most t (suc n) =
      let bit : ℕ = presence x in
      let len : ℕ = length (item_of k x) in
      let z : 1 + n ≡ suc n = omega arith in
      let o = few-then e bit len c t item joins 0 c (inl (omega arith)) (λ q. inl (omega arith)) in
      rw (then-again n, ← z) (few-runs e bit len c (1 + n) (grown_times e bit len n first) (few-again e bit len c t n 1 first o))

  entries-most : keyed e ≡ true → (n : ℕ) → (after n).entries ≤ c.entries + min n 1
  unfolding times grown
  entries-most t zero = omega arith
  entries-most t (suc n) =
      let s = same_entries e (presence x) (length (item_of k x)) c t n first in
      let o = at_most (keyed e && item) c.entries in
      rw (then-again n) (omega (arith, s, o))

-- ---- the areas
module _ (k : Kind) (e : Encoding) (rows : List Row) (n : ℕ) (x : Row) (c : Counted) (a : Lent) (r : Recorded k e rows c)
    (h : SlotsFor k e c n (length (item_of k x)) a) where
  abbrev more : List Row
  more = rows ++ replicate n x

  abbrev all : Counted
  all = (copies_by k e rows n x c a).counted

  counted : Recorded k e more all
  counted = copies-recorded k e rows n x c a r

  rows_told : all.rows ≤ c.rows + n
  rows_told = omega (arith, counted.rows, r.rows, length-append rows (replicate n x), length-replicate n x)

  coded-most : coded e ≡ true → all.runs ≤ c.runs + runs_more n
  coded-most t = runs-most k e x (item_by e rows x) (joins_by e rows x) (key_by e rows x) c a t n

  items-most : length (stored_rows e more) ≤ stored_by e c + items_more e n
  unfolding stored_by items_more
  items-most =
      rw (← stored-by k more all e counted)
      (either-sum (keyed e) all.entries (cond (coded e) all.runs all.rows) c.entries (min n 1) (cond (coded e) c.runs c.rows)
      (cond (coded e) (runs_more n) n) (λ t. entries-most k e x (item_by e rows x) (joins_by e rows x) (key_by e rows x) c a t n)
      (either-sum (coded e) all.runs all.rows c.runs (runs_more n) c.rows n coded-most rows_told))

  bytes_most : length (joined (item_of k) (stored_rows e more)) ≤ c.bytes + items_more e n * length (item_of k x)
  bytes_most =
      let f : Row → List ℕ = item_of k in
      let s : List Row = stored_rows e rows in
      let o = stored-copies e x n rows in
      let i : ℕ = o.0 in
      let stored = ap length o.1 ∙ length-append s (replicate i x) in
      let few : i ≤ items_more e n = omega (arith, stored, length-replicate i x, items-most, stored-by k rows c e r) in
      let l : i * length (f x) ≤ items_more e n * length (f x) = mul-le-mul few (omega arith) in
      let b = ap (λ (t : List Row). length (joined f t)) o.1 ∙ ap length (joined-append f s (replicate i x)) in
      omega (arith, b, length-append (joined f s) (joined f (replicate i x)), copies_length f i x, l, r.bytes)

  runs-told : coded e ≡ true → length (stored_runs e more) ≤ c.runs + runs_more n
  runs-told t = rw (← counted.runs) (coded-most t)

  enough-for-copies : Enough k e more a
  enough-for-copies =
      let m : ℕ = length (stored_rows e more) in
      let rs : ℕ = length (stored_runs e more) in
      let most : ℕ = stored_by e c + items_more e n in
      let i = h.items in
      let b = bytes_most in
      let ends = ends-least k m most items-most in
      let lens = lens-least k m most items-most in
      let flags = flags-least (flagged e) m most items-most in
      let flags_long = if-long (flagged e) (bitmap_length most) (length a.flags) h.flags in
      record {
        items = omega arith;
        ends = omega (arith, h.ends);
        flags = omega arith;
        counts = rw (← runs-only e more) (if-long (coded e) rs (length a.counts) (λ u. omega (arith, runs-told u, h.counts u)));
        keys = if-long (keyed e) rs (length a.keys) (λ u. omega (arith, runs-told (keyed-coded e u), h.keys u));
        lens = omega (arith, h.lens);
      }

  -- Areas with slots for so many more runs and stored items than the record counts as n equal rows come to at most, and the item bytes of as many, are not
  -- below the need of the rows with n of that row behind.
  pub slots-are-enough : below (need_of k e (rows ++ replicate n x)) (room_of a) ≡ false
  slots-are-enough = below-told k e more a enough-for-copies
