-- The counted numbers with one row more, and the answer, on each way through the code. Assumes nothing.
use Prim.Native.Nat.{ℕ, ◌+◌, ◌-◌, ◌*◌, ◌≤◌, ◌<◌}
use native.Mathlib.Omega.{arith}
use mathlib.Core.Path.{◌≡◌, refl, sym, ap, subst, ◌∙◌}
use mathlib.Core.Logic.{⊎_elim}
use mathlib.Core.Bool.{Bool, true, false, cond, not, ◌&&◌}
use lib.Dec.{ltb}
use lib.ListN.{length}
use borrow.Author.Tests.{ltb-true, ltb-false}
use Rattle.varint.specs.Varint.{spelling}
use Rattle.area.proofs.Laws.{lt-or-ge}
use Rattle.varint.proofs.Spelling.{size1, size2, size3, size4, size5}
use Rattle.encode.specs.declared.Kind.{Kind}
use Rattle.format.specs.declared.Encoding.{Encoding}
use Rattle.format.specs.declared.Encoding.TheVariants.{Plain, Nullable, RunLength, RunLengthNullable, Dictionary}
use Rattle.needs.specs.declared.Counted.{Counted}
use Rattle.needs.specs.declared.Room.{Room}
use Rattle.needs.proofs.Wrong.{Right}
use Rattle.step.specs.Counting.{Next, growth, grown, next_of, with_entries, counted_by}
use Rattle.needs.specs.Needs.{coded, keyed, inner_bytes, finished_bytes, past_limits, too_short}
use Rattle.needs.specs.Tests.{rows_by, runs_by}
use Rattle.encode.proofs.Bools.{clash as apart}
use Rattle.needs.proofs.Encodings.{cond-then, cond-else}
use Rattle.needs.proofs.Lengths.{inner-least, run-some}
use Rattle.needs.proofs.Limits.{limit-past}
use Rattle.limits.specs.Limits.{MOST_BYTES, MOST_COUNT}
use Rattle.limits.specs.Refusals.{LIMIT, ROOM}

-- ---- the varint of the last count
-- the next number's is no shorter, and none is longer than five bytes
pub longer : (v : ℕ) → v < MOST_COUNT → (length (spelling v) ≤ length (spelling (v + 1))) × (length (spelling (v + 1)) ≤ 5)
longer v h =
    ⊎_elim (λ l. let e = size1 v l in
    ⊎_elim (λ m. let f = size1 (v + 1) m in (omega arith, omega arith)) (λ m. let f = size2 (v + 1) m (omega arith) in (omega arith, omega arith)) (lt-or-ge (v + 1) 128))
    (λ g. ⊎_elim (λ l. let e = size2 v g l in
    ⊎_elim (λ m. let f = size2 (v + 1) (omega arith) m in (omega arith, omega arith)) (λ m. let f = size3 (v + 1) m (omega arith) in (omega arith, omega arith)) (lt-or-ge (v + 1) 16384))
    (λ g. ⊎_elim (λ l. let e = size3 v g l in
    ⊎_elim (λ m. let f = size3 (v + 1) (omega arith) m in (omega arith, omega arith)) (λ m. let f = size4 (v + 1) m (omega arith) in (omega arith, omega arith)) (lt-or-ge (v + 1) 2097152))
    (λ g. ⊎_elim (λ l. let e = size4 v g l in
    ⊎_elim (λ m. let f = size4 (v + 1) (omega arith) m in (omega arith, omega arith)) (λ m. let f = size5 (v + 1) m (omega arith) in (omega arith, omega arith)) (lt-or-ge (v + 1) 268435456))
    (λ g. let e = size5 v g (omega arith) in let f = size5 (v + 1) (omega arith) (omega arith) in (omega arith, omega arith))
    (lt-or-ge v 268435456))
    (lt-or-ge v 2097152))
    (lt-or-ge v 16384))
    (lt-or-ge v 128)

pub grows : (v : ℕ) {a b : ℕ} → v < MOST_COUNT → a ≡ length (spelling (v + 1)) → b ≡ length (spelling v) → (b ≤ a) × (a - b ≡ growth v) × (a - b ≤ 5)
unfolding growth
grows v {a} {b} h p q = let l = longer v h in (omega (arith, p, q), cc, omega (arith, p, q))

-- ---- the fields
pub null-not : (b : Bool) → b ≡ true → 0 ≡ 1 - cond b 1 0
null-not b u = subst (λ (y : Bool). 0 ≡ 1 - cond y 1 0) (sym u) refl

pub null-so : (b : Bool) → b ≡ false → 1 ≡ 1 - cond b 1 0
null-so b u = subst (λ (y : Bool). 1 ≡ 1 - cond y 1 0) (sym u) refl

abbrev with_row : Counted → ℕ → ℕ → ℕ → ℕ → ℕ → ℕ → Counted
with_row r runs entries len last is_null counts = record {
  rows = r.rows + 1;
  runs = runs;
  entries = entries;
  bytes = len;
  last = last;
  null = is_null;
  counts = counts;
}

pub grown-row : (r : Counted) (len : ℕ) → with_row r r.runs r.entries (r.bytes + len) r.last r.null r.counts ≡ grown Plain r 0 len true false
unfolding grown coded keyed
grown-row r len = refl

-- a row's flag is in no count
pub row_same : (f : Bool) (r : Counted) (bit len : ℕ) → grown Plain r 0 len true false ≡ grown (rows_by f) r bit len true false
unfolding grown coded keyed
row_same true r bit len = refl
row_same false r bit len = refl

pub row-answer :
    (k : Kind) (f : Bool) (r : Counted) (m : Room) (bit len : ℕ) {n : Next} → n ≡ counted_by k (rows_by f) r m (grown (rows_by f) r 0 len true false)
    → n ≡ counted_by k (rows_by f) r m (grown (rows_by f) r bit len true false)
row-answer k f r m bit len h = h ∙ ap (counted_by k (rows_by f) r m) (sym (row_same f r 0 len) ∙ row_same f r bit len)

module _ (r : Counted) (n : ℕ) (present : Bool) (len : ℕ) (stored joins : Bool) {x y : ℕ} (p : x ≡ cond stored (r.bytes + len) r.bytes) (q : y ≡ 1 - cond present 1 0) where
  pub run-joined : joins ≡ true → {g : ℕ} → g ≡ growth r.last → with_row r r.runs n x (r.last + 1) y (r.counts + g) ≡ with_entries (grown RunLength r (cond present 1 0) len stored joins) n
  unfolding with_entries grown coded keyed
  run-joined t {g} s = go joins t
    where
      go : (joins : Bool) → joins ≡ true → with_row r r.runs n x (r.last + 1) y (r.counts + g) ≡ with_entries (grown RunLength r (cond present 1 0) len stored joins) n
      go true t = rw (p, q, s) refl
      go false t = apart (sym t)

  pub run-begun : joins ≡ false → with_row r (r.runs + 1) n x 1 y (r.counts + 1) ≡ with_entries (grown RunLength r (cond present 1 0) len stored joins) n
  unfolding with_entries grown coded keyed
  run-begun t = go joins t
    where
      go : (joins : Bool) → joins ≡ false → with_row r (r.runs + 1) n x 1 y (r.counts + 1) ≡ with_entries (grown RunLength r (cond present 1 0) len stored joins) n
      go true t = apart t
      go false t = rw (p, q) refl

module _ (r : Counted) (bit len : ℕ) (stored joins : Bool) {b : Counted} {n : ℕ} (h : b ≡ with_entries (grown RunLength r bit len stored joins) n) where
  pub run-same : (f : Bool) → n ≡ r.entries → b ≡ grown (runs_by f) r bit len stored joins
  unfolding with_entries grown coded keyed
  run-same f q = h ∙ ap (with_entries (grown RunLength r bit len stored joins)) q ∙ go f
    where
      go : (f : Bool) → with_entries (grown RunLength r bit len stored joins) r.entries ≡ grown (runs_by f) r bit len stored joins
      go true = refl
      go false = refl

  pub key-same : n ≡ cond stored (r.entries + 1) r.entries → b ≡ grown Dictionary r bit len stored joins
  unfolding with_entries grown coded keyed
  key-same q = h ∙ ap (with_entries (grown RunLength r bit len stored joins)) q

-- ---- the record with the row counted in
growth-few : (v : ℕ) → v < MOST_COUNT → growth v ≤ 5
unfolding growth
growth-few v h = let l = longer v h in omega arith

module _ (e : Encoding) (r : Counted) (bit len : ℕ) where
  pub bytes-few : (stored joins : Bool) → r.bytes ≤ MOST_BYTES → (stored ≡ true → len ≤ MOST_BYTES) → (grown e r bit len stored joins).bytes ≤ 2 * MOST_BYTES
  unfolding grown
  bytes-few true joins h g = let l = g refl in omega arith
  bytes-few false joins h g = omega arith

  pub counts-few :
      (stored joins : Bool) → (coded e ≡ true → r.counts ≤ MOST_BYTES) → (joins ≡ true → r.last < MOST_COUNT) → coded e ≡ true
      → (grown e r bit len stored joins).counts ≤ 2 * MOST_BYTES
  unfolding grown
  counts-few stored true h g t =
      let a = h t in
      let b = growth-few r.last (g refl) in
      let z : r.counts + growth r.last ≡ cond (coded e) (r.counts + growth r.last) r.counts = cond-then _ _ refl t in
      omega arith
  counts-few stored false h g t =
      let a = h t in
      let z : r.counts + 1 ≡ cond (coded e) (r.counts + 1) r.counts = cond-then _ _ refl t in
      omega arith

-- the next numbers are small enough to be measured
pub next-few :
    (k : Kind) (e : Encoding) (r : Counted) (bit len : ℕ) (stored joins : Bool) {n : Counted} → n ≡ grown e r bit len stored joins → Right k e r
    → (stored ≡ true → len ≤ MOST_BYTES) → (joins ≡ true → r.last < MOST_COUNT) → coded e ≡ true
    → (n.bytes ≤ 2 * MOST_BYTES) × (n.counts ≤ 2 * MOST_BYTES)
next-few k e r bit len stored joins q w long last t =
    rw q (bytes-few e r bit len stored joins w.bytes long, counts-few e r bit len stored joins w.counts last t)

-- a row that is stored: the finished block is no shorter than the items
pub finished-holds :
    (k : Kind) (e : Encoding) (r : Counted) (bit len : ℕ) (joins : Bool) → (keyed e ≡ false → joins ≡ false)
    → r.bytes + len ≤ finished_bytes k e (grown e r bit len true joins)
unfolding finished_bytes grown keyed coded
finished-holds k Plain r bit len joins h = inner-least k Plain (grown Plain r bit len true joins)
finished-holds k Nullable r bit len joins h = inner-least k Nullable (grown Nullable r bit len true joins)
finished-holds k RunLength r bit len true h = apart (h refl)
finished-holds k RunLength r bit len false h =
    let n = grown RunLength r bit len true false in
    let i = inner-least k RunLength n in
    let z = run-some n (inner_bytes k RunLength n) (λ q. omega (arith, q)) in
    omega arith
finished-holds k RunLengthNullable r bit len true h = apart (h refl)
finished-holds k RunLengthNullable r bit len false h =
    let n = grown RunLengthNullable r bit len true false in
    let i = inner-least k RunLengthNullable n in
    let z = run-some n (inner_bytes k RunLengthNullable n) (λ q. omega (arith, q)) in
    omega arith
finished-holds k Dictionary r bit len joins h = let i = inner-least k Dictionary (grown Dictionary r bit len true joins) in omega arith

pub not-joined : (joins : Bool) → true ≡ not joins → joins ≡ false
not-joined true h = apart h
not-joined false h = refl

pub long-past :
    (k : Kind) (e : Encoding) (r : Counted) (m : Room) (bit len : ℕ) (stored joins : Bool) → (keyed e ≡ false → stored ≡ not joins)
    → {x : Bool} → x ≡ (stored && ltb MOST_BYTES len) → x ≡ true → next_of LIMIT r ≡ counted_by k e r m (grown e r bit len stored joins)
unfolding counted_by
long-past k e r m bit len false joins h q t = apart (sym (sym q ∙ t))
long-past k e r m bit len true joins h q t =
    let g = ltb-true MOST_BYTES len (sym q ∙ t) in
    let n = grown e r bit len true joins in
    cond-then (next_of LIMIT r) (cond (too_short k e n m) (next_of ROOM r) (next_of 0 n)) refl (limit-past k e n (omega (arith, finished-holds k e r bit len joins (λ z. not-joined joins (h z)))))

pub long-not : (stored : Bool) (len : ℕ) {x : Bool} → x ≡ (stored && ltb MOST_BYTES len) → x ≡ false → stored ≡ true → len ≤ MOST_BYTES
long-not true len q t s = ltb-false MOST_BYTES len (sym q ∙ t)
long-not false len q t s = apart (sym s)

module _ (k : Kind) (e : Encoding) (r : Counted) (m : Room) {n next : Counted} (p : n ≡ next) {x : Bool} (q : x ≡ past_limits k e n) where
  same-limits : x ≡ past_limits k e next
  same-limits = q ∙ ap (past_limits k e) p

  pub counted-limits : x ≡ true → next_of LIMIT r ≡ counted_by k e r m next
  unfolding counted_by
  counted-limits t = cond-then (next_of LIMIT r) (cond (too_short k e next m) (next_of ROOM r) (next_of 0 next)) same-limits t

  module _ (u : x ≡ false) {y : Bool} (o : y ≡ too_short k e n m) where
    same-short : y ≡ too_short k e next m
    same-short = o ∙ ap (λ (b : Counted). too_short k e b m) p

    pub counted-short : y ≡ true → next_of ROOM r ≡ counted_by k e r m next
    unfolding counted_by
    counted-short t =
        cond-then (next_of ROOM r) (next_of 0 next) same-short t
        ∙ cond-else (next_of LIMIT r) (cond (too_short k e next m) (next_of ROOM r) (next_of 0 next)) same-limits u

    pub counted-done : y ≡ false → next_of 0 n ≡ counted_by k e r m next
    unfolding counted_by
    counted-done t =
        ap (next_of 0) p ∙ cond-else (next_of ROOM r) (next_of 0 next) same-short t
        ∙ cond-else (next_of LIMIT r) (cond (too_short k e next m) (next_of ROOM r) (next_of 0 next)) same-limits u
