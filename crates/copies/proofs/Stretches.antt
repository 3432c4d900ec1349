-- Equal rows behind a row: in parts; t of them that all join the last run are one step. Assumes nothing.
use Prim.Native.Nat.{ℕ, zero, suc, ◌+◌, ◌-◌, ◌≤◌, ◌<◌}
use native.Mathlib.Nat.{add-zero, zero-add}
use native.Mathlib.Omega.{arith}
use mathlib.Core.Path.{◌≡◌, refl, ap, ◌∙◌}
use mathlib.Core.Bool.{Bool, true, false, not, ◌&&◌}
use mathlib.Core.List.{List, [], ◌∷◌}
use lib.IntN.{ℤ}
use lib.ListN.{length, set}
use borrow.Author.Tests.{lt-ltb}
use Rattle.limits.specs.Limits.{MOST_COUNT}
use Rattle.encode.specs.declared.Kind.{Kind}
use Rattle.plain.specs.Rows.{Row}
use Rattle.plain.specs.Plain.{item_of}
use Rattle.nullable.specs.Nullable.{presence}
use Rattle.varint.specs.Varint.{spelling}
use Rattle.format.specs.declared.Encoding.{Encoding}
use Rattle.needs.specs.declared.Counted.{Counted}
use Rattle.needs.specs.Needs.{coded, keyed}
use Rattle.slots.specs.Slots.{counts_with}
use Rattle.step.specs.Steps.{run_open}
use Rattle.step.specs.Counting.{growth, grown}
use Rattle.varint.proofs.Spelling.{size1}
use Rattle.step.proofs.Growth.{longer}
use Rattle.append.specs.Appending.{Lent, lent, laid}
use Rattle.copies.specs.Copies.{Stage, stage, one_more, joins_again, stores_again, once_more, times_more, times}
use Rattle.copies.specs.Stretch.{grown_again, grown_times, joined}
use Rattle.copies.proofs.Growing.{NoLess, no-less-itself, no-less-then, grown-no-less}

-- ---- in parts
suc-first : (n m : ℕ) → suc n + m ≡ suc (n + m)
suc-first n m = omega arith

pub more-in-parts : (k : Kind) (e : Encoding) (row : Row) (key : ℤ) (n m : ℕ) (g : Stage)
    → times_more k e row key (n + m) g ≡ times_more k e row key m (times_more k e row key n g)
unfolding times_more
more-in-parts k e row key zero m g = rw (zero-add m)
more-in-parts k e row key (suc n) m g = rw (suc-first n m) (more-in-parts k e row key n m (once_more k e row key g))

-- n times are the first, and the others behind it
one_less : (n : ℕ) → suc n - 1 ≡ n
one_less n = omega arith

pub times-in-two : (k : Kind) (e : Encoding) (row : Row) (item joins : Bool) (key : ℤ) (n : ℕ) (g : Stage) → (n ≡ 0 → ⊥)
    → times k e row item joins key n g ≡ times_more k e row key (n - 1) (one_more k e row item joins key g)
unfolding times
times-in-two k e row item joins key zero g some = absurd (some refl)
times-in-two k e row item joins key (suc n) g some = rw (one_less n)

pub grown-in-parts : (e : Encoding) (bit len n m : ℕ) (r : Counted)
    → grown_times e bit len (n + m) r ≡ grown_times e bit len m (grown_times e bit len n r)
unfolding grown_times
grown-in-parts e bit len zero m r = rw (zero-add m)
grown-in-parts e bit len (suc n) m r = rw (suc-first n m) (grown-in-parts e bit len n m (grown_again e bit len r))

-- what is counted hangs on no area
pub counted-more : (k : Kind) (e : Encoding) (row : Row) (key : ℤ) (n : ℕ) (g : Stage)
    → (times_more k e row key n g).counted ≡ grown_times e (presence row) (length (item_of k row)) n g.counted
unfolding times_more once_more one_more grown_times grown_again
counted-more k e row key zero g = refl
counted-more k e row key (suc n) g = counted-more k e row key n (once_more k e row key g)

pub more-no-less : (e : Encoding) (bit len n : ℕ) (r : Counted) → NoLess r (grown_times e bit len n r)
unfolding grown_times grown_again
more-no-less e bit len zero r = no-less-itself r
more-no-less e bit len (suc n) r =
    no-less-then (grown-no-less e r bit len (stores_again e r) (joins_again e r)) (more-no-less e bit len n (grown_again e bit len r))

-- ---- rows that join
-- a larger count's bytes are no fewer, and at most five
five-most : (v : ℕ) → v ≤ MOST_COUNT → length (spelling v) ≤ 5
five-most zero h = let s = size1 0 (omega arith) in omega arith
five-most (suc v) h = let z : v + 1 ≡ suc v = omega arith in rw z at (longer v (omega arith)).1

pub longer-by : (v t : ℕ) → v + t ≤ MOST_COUNT → (length (spelling v) ≤ length (spelling (v + t))) × (length (spelling (v + t)) ≤ 5)
longer-by v zero h = rw (add-zero v) (omega arith, five-most v (omega arith))
longer-by v (suc t) h =
    let a = longer v (omega arith) in
    let b = longer-by (v + 1) t (omega arith) in
    let z : v + suc t ≡ v + 1 + t = omega arith in
    rw z (omega (arith, a, b), b.1)

-- the counts' bytes: what each row adds is what the last count has more in the end
growths : (v t : ℕ) → v + suc t ≤ MOST_COUNT
    → length (spelling (v + 1)) - length (spelling v) + (length (spelling (v + 1 + t)) - length (spelling (v + 1))) ≡ length (spelling (v + suc t)) - length (spelling v)
growths v t h =
    let a = longer v (omega arith) in
    let b = longer-by (v + 1) t (omega arith) in
    let z : v + suc t ≡ v + 1 + t = omega arith in
    rw z (omega (arith, a, b))

open-again : (r : Counted) → 0 < r.runs → r.last < MOST_COUNT → run_open r ≡ true
unfolding run_open
open-again r h g = rw (lt-ltb 0 r.runs h, lt-ltb r.last MOST_COUNT g)

-- the slot of the run's count, written once for all of them
set_twice : (n x y : ℕ) (l : List ℕ) → set (set l n x) n y ≡ set l n y
set_twice n x y [] = refl
set_twice zero x y (v ∷ l) = refl
set_twice (suc n) x y (v ∷ l) = ap (λ (m : List ℕ). v ∷ m) (set_twice n x y l)

abbrev pub with_count : Lent → ℕ → ℕ → Lent
with_count a n x = lent a.items a.ends a.flags (set a.counts n x) a.keys a.lens

last_then : (v t : ℕ) → v + 1 + t ≡ v + suc t
last_then v t = omega arith

joined-then : (r : Counted) (bit t : ℕ) → r.last + suc (suc t) ≤ MOST_COUNT → joined (joined r bit 1) bit (suc t) ≡ joined r bit (suc (suc t))
unfolding joined
joined-then r bit t h =
    ap (λ (n : ℕ). with-three n (r.last + 1 + suc t) (counts + (long (r.last + 1 + suc t) - long (r.last + 1)))) (last_then r.rows (suc t))
    ∙ ap (λ (n : ℕ). with-three (r.rows + suc (suc t)) n (counts + (long n - long (r.last + 1)))) (last_then r.last (suc t))
    ∙ ap (with-three (r.rows + suc (suc t)) (r.last + suc (suc t))) (omega (arith, growths r.last (suc t) h, ap long (last_then r.last (suc t))))
  where
    long : ℕ → ℕ
    long n = length (spelling n)

    counts : ℕ
    counts = r.counts + (long (r.last + 1) - long r.last)

    with-three : ℕ → ℕ → ℕ → Counted
    with-three rows last counts = record { rows = rows; runs = r.runs; entries = r.entries; bytes = r.bytes; last = last; null = 1 - bit; counts = counts }

not-both : (b : Bool) → (not b && false) ≡ false
not-both true = refl
not-both false = refl

and-false : (b : Bool) → (b && false) ≡ false
and-false true = refl
and-false false = refl

module _ (e : Encoding) (bit len : ℕ) (c : coded e ≡ true) where
  grown-joined : (r : Counted) → 0 < r.runs → r.last < MOST_COUNT → grown_again e bit len r ≡ joined r bit 1
  unfolding grown_again stores_again joins_again grown joined growth
  grown-joined r h g = rw (c, open-again r h g, not-both (keyed e), and-false (keyed e))

  pub all-joined : (t : ℕ) (r : Counted) → 0 < r.runs → r.last + suc t ≤ MOST_COUNT → grown_times e bit len (suc t) r ≡ joined r bit (suc t)
  unfolding grown_times joined
  all-joined zero r h g = grown-joined r h (omega arith)
  all-joined (suc t) r h g =
      ap (grown_times e bit len (suc t)) (grown-joined r h (omega arith)) ∙ all-joined t (joined r bit 1) h (omega arith) ∙ joined-then r bit t g

module _ (k : Kind) (e : Encoding) (row : Row) (key : ℤ) (c : coded e ≡ true) where
  -- one row that joins
  once-joined : (r : Counted) (a : Lent) → 0 < r.runs → r.last < MOST_COUNT
      → once_more k e row key (stage r a) ≡ stage (joined r (presence row) 1) (with_count a (r.runs - 1) (r.last + 1))
  unfolding once_more one_more stores_again joins_again grown laid counts_with joined growth
  once-joined r a h g = rw (c, open-again r h g, not-both (keyed e), and-false (keyed e))

  pub all_join : (t : ℕ) (r : Counted) (a : Lent) → 0 < r.runs → r.last + suc t ≤ MOST_COUNT
      → times_more k e row key (suc t) (stage r a) ≡ stage (joined r (presence row) (suc t)) (with_count a (r.runs - 1) (r.last + suc t))
  unfolding times_more joined
  all_join zero r a h g = once-joined r a h (omega arith)
  all_join (suc t) r a h g =
      ap (times_more k e row key (suc t)) (once-joined r a h (omega arith))
      ∙ all_join t (joined r (presence row) 1) (with_count a (r.runs - 1) (r.last + 1)) h (omega arith)
      ∙ (rw (joined-then r (presence row) t g, set_twice (r.runs - 1) (r.last + 1) (r.last + 1 + suc t) a.counts) (ap told (last_then r.last (suc t))))
    where
      told : ℕ → Stage
      told n = stage (joined r (presence row) (suc (suc t))) (with_count a (r.runs - 1) n)
