-- The counted numbers with equal rows behind a row, and the answer that they are within the limits or past them, on each way through the code. Assumes
-- nothing.
use Prim.Native.Nat.{ℕ, zero, suc, ◌+◌, ◌-◌, ◌*◌, ◌≤◌, ◌<◌}
use native.Mathlib.Nat.{mul-le-mul}
use native.Mathlib.Omega.{arith}
use mathlib.Core.Path.{◌≡◌, refl, sym, ap, subst, ◌∙◌}
use mathlib.Core.Bool.{Bool, true, false, cond, not, ◌&&◌}
use mathlib.Core.List.{[], ◌∷◌}
use lib.Dec.{ltb}
use lib.ListN.{length}
use borrow.Author.Tests.{ltb-true, ltb-false}
use types.Run.{OneOf, miss}
use denote.Enum.Declared.{tag_of}
use Rattle.limits.specs.Limits.{MOST_ROWS, MOST_ITEMS, MOST_BYTES, MOST_COUNT}
use Rattle.limits.specs.Refusals.{LIMIT}
use Rattle.encode.specs.declared.Kind.{Kind}
use Rattle.encode.proofs.Bools.{clash as apart, both, and_then, and-not}
use Rattle.varint.specs.Varint.{spelling}
use Rattle.format.specs.declared.Encoding.{Encoding}
use Rattle.format.specs.declared.Encoding.TheVariants.{Plain, Nullable, RunLength, RunLengthNullable, Dictionary}
use Rattle.format.specs.contracts.Encoding.{the_type}
use Rattle.needs.specs.declared.Counted.{Counted}
use Rattle.needs.specs.Needs.{coded, keyed, stored_by, inner_bytes, finished_bytes, counts_past, past_limits}
use Rattle.needs.proofs.Lengths.{inner-least, run-some}
use Rattle.needs.proofs.Limits.{few, within, limit-past, limit-holds, past-stored}
use Rattle.step.specs.Steps.{run_open}
use Rattle.step.specs.Counting.{Next, grown, next_of, with_entries}
use Rattle.step.proofs.Steps.{opened}
use Rattle.step.proofs.Growth.{run-same, key-same, bytes-few, counts-few, finished-holds, not-joined}
use Rattle.copies.specs.Copies.{joins_again, stores_again}
use Rattle.copies.specs.Stretch.{grown_again, grown_times, joined, limited}
use Rattle.copies.proofs.Growing.{NoLess, grown-no-less, within-before}
use Rattle.copies.proofs.Stretches.{grown-in-parts, more-no-less, longer-by, all-joined}

-- ---- whether an equal row joins
module _ (e : Encoding) (r : Counted) {x : Bool} (q : x ≡ coded e) where
  pub joins-so : x ≡ true → {y : Bool} → y ≡ run_open r → y ≡ joins_again e r
  unfolding joins_again
  joins-so t h = h ∙ and_then _ q t

  pub joins-not : x ≡ false → false ≡ joins_again e r
  unfolding joins_again
  joins-not t = and-not _ q t

pub again-open : (e : Encoding) (r : Counted) {x : Bool} → x ≡ joins_again e r → x ≡ true → r.last < MOST_COUNT
unfolding joins_again
again-open e r q t = (opened r refl (both (coded e) (run_open r) (sym q ∙ t)).1).1

pub stores-so : (e : Encoding) (r : Counted) → joins_again e r ≡ false → keyed e ≡ false → stores_again e r ≡ true
unfolding stores_again
stores-so e r h g = rw (h, g)

-- ---- numbers within the limits are small enough to be added to
pub record Small (e : Encoding) (r : Counted) : Type 0 where
  pub past : counts_past e r ≡ false
  pub bytes : r.bytes ≤ MOST_BYTES
  pub counts : coded e ≡ true → r.counts ≤ MOST_BYTES

bounds : (k : Kind) (e : Encoding) (r : Counted) → finished_bytes k e r ≤ MOST_BYTES → (coded e ≡ true → 0 < r.runs)
    → (r.bytes ≤ MOST_BYTES) × (coded e ≡ true → r.counts ≤ MOST_BYTES)
unfolding finished_bytes coded
bounds k Plain r f s = let i = inner-least k Plain r in (omega arith, λ t. apart (sym t))
bounds k Nullable r f s = let i = inner-least k Nullable r in (omega arith, λ t. apart (sym t))
bounds k RunLength r f s =
    let i = inner-least k RunLength r in
    let n = s refl in
    let z = run-some r (inner_bytes k RunLength r) (λ (q : r.runs ≡ 0). omega (arith, q, n)) in
    (omega (arith, i, z, f), λ t. omega (arith, i, z, f))
bounds k RunLengthNullable r f s =
    let i = inner-least k RunLengthNullable r in
    let n = s refl in
    let z = run-some r (inner_bytes k RunLengthNullable r) (λ (q : r.runs ≡ 0). omega (arith, q, n)) in
    (omega (arith, i, z, f), λ t. omega (arith, i, z, f))
bounds k Dictionary r f s =
    let i = inner-least k Dictionary r in
    let n = s refl in
    let z = run-some r (4 * r.runs) (λ (q : r.runs ≡ 0). omega (arith, q, n)) in
    (omega (arith, i, z, f), λ t. omega (arith, i, z, f))

pub small : (k : Kind) (e : Encoding) (r : Counted) → past_limits k e r ≡ false → (coded e ≡ true → 0 < r.runs) → Small e r
small k e r h some =
    let b = bounds k e r (limit-holds k e r h) some in
    record { past = within k e r refl h; bytes = b.0; counts = b.1 }

pub rows_bound : (e : Encoding) (r : Counted) → Small e r → r.rows ≤ MOST_ROWS
rows_bound e r s = (few e r s.past).rows

-- ---- one row counted in
module _ (e : Encoding) (r : Counted) (bit len : ℕ) (stored joins : Bool) {x : Counted} where
  pub row_in : OneOf (0 ∷ 1 ∷ []) (tag_of the_type e) → (stored ≡ true) × (joins ≡ false) → x ≡ grown Plain r 0 len true false → x ≡ grown e r bit len stored joins
  unfolding grown coded keyed
  row_in h s q = rw (s.0, s.1) (q ∙ go e h)
    where
      go : (e : Encoding) → OneOf (0 ∷ 1 ∷ []) (tag_of the_type e) → grown Plain r 0 len true false ≡ grown e r bit len true false
      go Plain h = refl
      go Nullable h = refl
      go RunLength h = absurd (miss (0 ∷ 1 ∷ []) 2 tt h)
      go RunLengthNullable h = absurd (miss (0 ∷ 1 ∷ []) 3 tt h)
      go Dictionary h = absurd (miss (0 ∷ 1 ∷ []) 4 tt h)

  pub run_in : OneOf (2 ∷ 3 ∷ []) (tag_of the_type e) → x ≡ with_entries (grown RunLength r bit len stored joins) r.entries → x ≡ grown e r bit len stored joins
  run_in h q = go e h
    where
      go : (e : Encoding) → OneOf (2 ∷ 3 ∷ []) (tag_of the_type e) → x ≡ grown e r bit len stored joins
      go Plain h = absurd (miss (2 ∷ 3 ∷ []) 0 tt h)
      go Nullable h = absurd (miss (2 ∷ 3 ∷ []) 1 tt h)
      go RunLength h = run-same r bit len stored joins q false refl
      go RunLengthNullable h = run-same r bit len stored joins q true refl
      go Dictionary h = absurd (miss (2 ∷ 3 ∷ []) 4 tt h)

  pub key_in : e ≡ Dictionary → {n : ℕ} → n ≡ cond stored (r.entries + 1) r.entries → x ≡ with_entries (grown RunLength r bit len stored joins) n
      → x ≡ grown e r bit len stored joins
  key_in h p q = subst (λ (g : Encoding). x ≡ grown g r bit len stored joins) (sym h) (key-same r bit len stored joins q p)

pub rows-few-items : (e : Encoding) (r : Counted) → coded e ≡ false → counts_past e r ≡ false → r.rows ≤ MOST_ITEMS
unfolding coded stored_by keyed
rows-few-items Plain r h g = (few Plain r g).stored
rows-few-items Nullable r h g = (few Nullable r g).stored
rows-few-items RunLength r h g = apart h
rows-few-items RunLengthNullable r h g = apart h
rows-few-items Dictionary r h g = apart h

pub not-keyed : (e : Encoding) → coded e ≡ false → keyed e ≡ false
unfolding coded keyed
not-keyed Plain h = refl
not-keyed Nullable h = refl
not-keyed RunLength h = refl
not-keyed RunLengthNullable h = refl
not-keyed Dictionary h = apart h

pub stored_of : {x : Bool} (y : Bool) → x ≡ y → not x ≡ true → y ≡ false
stored_of {x} true q h = apart (sym (sym (ap not q) ∙ h))
stored_of {x} false q h = refl

pub rows-stored-so : (e : Encoding) {x : Bool} → x ≡ keyed e → coded e ≡ false → not x ≡ true
rows-stored-so e q h = ap not (q ∙ not-keyed e h)

pub begun-again : (e : Encoding) (r : Counted) (bit len : ℕ) → joins_again e r ≡ false → {x : Bool} → x ≡ keyed e → {y : Counted}
    → y ≡ grown e r bit len (not x) false → y ≡ grown_again e bit len r
unfolding grown_again stores_again
begun-again e r bit len h {x} q {y} g = rw (h, ← q) (g ∙ ap (λ (b : Bool). grown e r bit len b false) (and-true (not x)))
  where
    and-true : (b : Bool) → b ≡ (b && true)
    and-true true = refl
    and-true false = refl

-- ---- rows that join
abbrev with-joined : Counted → ℕ → ℕ → ℕ → Counted
with-joined r t is_null grows = record {
  rows = r.rows + t;
  runs = r.runs;
  entries = r.entries;
  bytes = r.bytes;
  last = r.last + t;
  null = is_null;
  counts = r.counts + grows;
}

pub joined-told : (r : Counted) (bit t : ℕ) {a b n : ℕ} → a ≡ length (spelling (r.last + t)) → b ≡ length (spelling r.last) → n ≡ 1 - bit
    → with-joined r t n (a - b) ≡ joined r bit t
unfolding joined
joined-told r bit t p q h = rw (p, q, h)

-- ---- a stretch of runs
abbrev pub Stretched : Encoding → ℕ → ℕ → Counted → ℕ → ℕ → Counted → Type 0
Stretched e bit len r left t x =
    (0 < t) × (t ≤ left) × (x ≡ grown_times e bit len t r) × (0 < x.runs) × (x.bytes ≤ 2 * MOST_BYTES) × (x.counts ≤ 2 * MOST_BYTES)

module _ (e : Encoding) (bit len : ℕ) (r : Counted) (c : coded e ≡ true) (s : Small e r) (some : 0 < r.runs) (left : ℕ) (go : 0 < left) where
  pub stretch-joined : (t : ℕ) → 0 < t → t ≤ left → r.last + t ≤ MOST_COUNT → {x : Counted} → x ≡ joined r bit t → Stretched e bit len r left t x
  unfolding joined
  stretch-joined zero p l m q = absurd (omega (arith, p))
  stretch-joined (suc t) p l m q =
      let n = s.counts c in
      let b = s.bytes in
      rw q (p, l, sym (all-joined e bit len c t r some m), some, omega arith, omega (arith, n, longer-few))
    where
      longer-few : length (spelling (r.last + suc t)) - length (spelling r.last) ≤ 5
      longer-few = let z = longer-by r.last (suc t) m in omega (arith, z)

  pub stretch-begun : (stores_again e r ≡ true → len ≤ MOST_BYTES) → joins_again e r ≡ false → {x : Counted} → x ≡ grown_again e bit len r → Stretched e bit len r left 1 x
  unfolding grown_times grown_again
  stretch-begun l j q =
      let n = (grown-no-less e r bit len (stores_again e r) (joins_again e r)).runs in
      rw q (
        omega arith,
        omega arith,
        refl,
        omega (arith, n, some),
        bytes-few e r bit len (stores_again e r) (joins_again e r) s.bytes l,
        counts-few e r bit len (stores_again e r) (joins_again e r) s.counts (λ t. apart (sym t ∙ j)) c,
      )

-- ---- 3, or the numbers
past_after : (k : Kind) (e : Encoding) (r s : Counted) → NoLess r s → past_limits k e r ≡ true → past_limits k e s ≡ true
past_after k e r s h p = go (past_limits k e s) refl
  where
    go : (b : Bool) → past_limits k e s ≡ b → past_limits k e s ≡ true
    go true q = q
    go false q = apart (sym p ∙ within-before k e r s h q)

module _ (k : Kind) (e : Encoding) (r next : Counted) where
  pub limited-past : past_limits k e next ≡ true → {n : Next} → n ≡ next_of LIMIT r → n ≡ limited k e r next
  unfolding limited
  limited-past h q = rw (q, h)

  pub limited-done : past_limits k e next ≡ false → {x : Counted} → x ≡ next → next_of 0 x ≡ limited k e r next
  unfolding limited
  limited-done h q = rw (q, h)

-- a row whose item is stored and longer than any block
pub item-past : (k : Kind) (e : Encoding) (r : Counted) (bit len : ℕ) (stored joins : Bool) → (keyed e ≡ false → stored ≡ not joins)
    → {x : Bool} → x ≡ (stored && ltb MOST_BYTES len) → x ≡ true → past_limits k e (grown e r bit len stored joins) ≡ true
item-past k e r bit len false joins h q t = apart (sym (sym q ∙ t))
item-past k e r bit len true joins h q t =
    let g = ltb-true MOST_BYTES len (sym q ∙ t) in
    limit-past k e (grown e r bit len true joins) (omega (arith, finished-holds k e r bit len joins (λ z. not-joined joins (h z))))

abbrev pub Past : Kind → Encoding → Counted → Type 0
Past k e r = past_limits k e r ≡ true

pub past_more : (k : Kind) (e : Encoding) (bit len n : ℕ) (r : Counted) → Past k e r → Past k e (grown_times e bit len n r)
past_more k e bit len n r h = past_after k e r (grown_times e bit len n r) (more-no-less e bit len n r) h

pub stores-unless : (e : Encoding) (r : Counted) → keyed e ≡ false → stores_again e r ≡ not (joins_again e r)
unfolding stores_again
stores-unless e r h = rw h

first_past : (k : Kind) (e : Encoding) (bit len n : ℕ) (r : Counted) → 0 < n → past_limits k e (grown_again e bit len r) ≡ true
    → past_limits k e (grown_times e bit len n r) ≡ true
unfolding grown_times
first_past k e bit len zero r p h = absurd (omega (arith, p))
first_past k e bit len (suc n) r p h = past_more k e bit len n (grown_again e bit len r) h

-- ---- the loop over stretches
pub record Going (k : Kind) (e : Encoding) (bit len : ℕ) (all now : Counted) (left : ℕ) : Type 0 where
  pub same : grown_times e bit len left now ≡ all
  pub within : past_limits k e now ≡ false
  pub some : 0 < now.runs

module _ (k : Kind) (e : Encoding) (bit len : ℕ) {all now : Counted} {left : ℕ} (g : Going k e bit len all now left) where
  pub going-item : 0 < left → {x : Bool} → x ≡ (stores_again e now && ltb MOST_BYTES len) → x ≡ true → past_limits k e all ≡ true
  unfolding grown_again
  going-item p q t =
      subst (λ (z : Counted). past_limits k e z ≡ true) g.same
      (first_past k e bit len left now p (item-past k e now bit len (stores_again e now) (joins_again e now) (stores-unless e now) q t))

  pub going-past : (t : ℕ) → t ≤ left → {x : Counted} → x ≡ grown_times e bit len t now → {b : Bool} → b ≡ past_limits k e x → b ≡ true → past_limits k e all ≡ true
  going-past t l q p h =
      subst (λ (z : Counted). past_limits k e z ≡ true) (sym (in_two t l) ∙ g.same)
      (past_more k e bit len (left - t) (grown_times e bit len t now) (sym (ap (past_limits k e) q) ∙ (sym p ∙ h)))
    where
      in_two : (t : ℕ) → t ≤ left → grown_times e bit len left now ≡ grown_times e bit len (left - t) (grown_times e bit len t now)
      in_two t l = ap (λ (n : ℕ). grown_times e bit len n now) (omega arith) ∙ grown-in-parts e bit len t (left - t) now

  pub going_on : (t : ℕ) → t ≤ left → {x : Counted} → x ≡ grown_times e bit len t now → 0 < x.runs → {b : Bool} → b ≡ past_limits k e x → b ≡ false
      → Going k e bit len all x (left - t)
  going_on t l {x} q s p h = record {
    same = ap (grown_times e bit len (left - t)) q ∙ sym (grown-in-parts e bit len t (left - t) now) ∙ ap (λ (n : ℕ). grown_times e bit len n now) (rest t l) ∙ g.same;
    within = sym p ∙ h;
    some = s;
  }
    where
      rest : (t : ℕ) → t ≤ left → t + (left - t) ≡ left
      rest t l = omega arith

  pub going_done : left ≡ 0 → (given : Counted) → next_of 0 now ≡ limited k e given all
  unfolding grown_times
  going_done z given =
      let q : now ≡ all = rw z at g.same in
      limited-done k e given all (sym (ap (past_limits k e) q) ∙ g.within) q

-- an item that isn't stored again, or one that isn't too long
pub never-again : (e : Encoding) (r : Counted) (len : ℕ) {x : Bool} → x ≡ keyed e → x ≡ true → false ≡ (stores_again e r && ltb MOST_BYTES len)
unfolding stores_again
never-again e r len q t = rw (sym q ∙ t)

pub item-again : (e : Encoding) (r : Counted) (len : ℕ) {x : Bool} → x ≡ keyed e → x ≡ false → {j : Bool} → j ≡ joins_again e r → {y : Bool}
    → y ≡ (not j && ltb MOST_BYTES len) → y ≡ (stores_again e r && ltb MOST_BYTES len)
unfolding stores_again
item-again e r len q t p h = rw (sym q ∙ t, ← p) h

pub item-short : (e : Encoding) (r : Counted) (len : ℕ) {x : Bool} → x ≡ (stores_again e r && ltb MOST_BYTES len) → x ≡ false → stores_again e r ≡ true → len ≤ MOST_BYTES
item-short e r len q t s = ltb-false MOST_BYTES len (and_then _ refl s ∙ (sym q ∙ t))

-- ---- rows, all at once
rows-finished : (k : Kind) (e : Encoding) (r : Counted) → coded e ≡ false → inner_bytes k e r ≡ finished_bytes k e r
unfolding finished_bytes coded
rows-finished k Plain r c = refl
rows-finished k Nullable r c = refl
rows-finished k RunLength r c = apart c
rows-finished k RunLengthNullable r c = apart c
rows-finished k Dictionary r c = apart c

abbrev with-numbers : Counted → ℕ → ℕ → Counted
with-numbers r n len = record {
  rows = n;
  runs = r.runs;
  entries = r.entries;
  bytes = len;
  last = r.last;
  null = r.null;
  counts = r.counts;
}

abbrev with_rows : Counted → ℕ → ℕ → Counted
with_rows r n len = with-numbers r (r.rows + n) (r.bytes + len)

one-row : (e : Encoding) (r : Counted) (bit len : ℕ) → coded e ≡ false → grown_again e bit len r ≡ with_rows r 1 len
unfolding grown_again stores_again joins_again grown coded keyed
one-row Plain r bit len c = refl
one-row Nullable r bit len c = refl
one-row RunLength r bit len c = apart c
one-row RunLengthNullable r bit len c = apart c
one-row Dictionary r bit len c = apart c

pub rows_more : (e : Encoding) (bit len : ℕ) → coded e ≡ false → (n : ℕ) (r : Counted) → grown_times e bit len n r ≡ with_rows r n (n * len)
unfolding grown_times
rows_more e bit len c zero r =
    let p : r.rows ≡ r.rows + 0 = omega arith in
    let q : r.bytes ≡ r.bytes + 0 * len = omega arith in
    ap (λ (n : ℕ). with-numbers r n r.bytes) p ∙ ap (with-numbers r (r.rows + 0)) q
rows_more e bit len c (suc n) r =
    let p : r.rows + 1 + n ≡ r.rows + suc n = omega arith in
    let q : r.bytes + len + n * len ≡ r.bytes + suc n * len = omega arith in
    ap (grown_times e bit len n) (one-row e r bit len c) ∙ rows_more e bit len c n (with_rows r 1 len) ∙ rw (p, q)

-- the items and the bytes of rows within the limits
abbrev pub RowsFew : Encoding → Counted → Type 0
RowsFew e r = (r.rows ≤ MOST_ITEMS) × (r.bytes ≤ MOST_BYTES)

pub rows_few : (k : Kind) (e : Encoding) (r : Counted) → coded e ≡ false → past_limits k e r ≡ false → RowsFew e r
rows_few k e r c h = let s = small k e r h (λ t. apart (sym t ∙ c)) in (rows-few-items e r c s.past, s.bytes)

pub product-few : (n len : ℕ) → n ≤ MOST_ITEMS → len ≤ MOST_BYTES → n * len ≤ MOST_ITEMS * MOST_BYTES
product-few n len h g = mul-le-mul h g

module _ (k : Kind) (e : Encoding) (bit len : ℕ) (c : coded e ≡ false) (n : ℕ) (r : Counted) where
  pub all_told : {b : Bool} → b ≡ past_limits k e (with_rows r n (n * len)) → past_limits k e (grown_times e bit len n r) ≡ b
  all_told q = ap (past_limits k e) (rows_more e bit len c n r) ∙ sym q

  pub rows-past : MOST_ITEMS < r.rows + n → past_limits k e (grown_times e bit len n r) ≡ true
  unfolding stored_by
  rows-past h = all_told {b = true} (past-stored k e (with_rows r n (n * len)) (rw (not-keyed e c, c) h))

  pub bytes_past : MOST_BYTES < n * len → past_limits k e (grown_times e bit len n r) ≡ true
  bytes_past h =
      let all : Counted = with_rows r n (n * len) in
      let i = inner-least k e all in
      all_told {b = true} (sym (limit-past k e all (omega (arith, i, rows-finished k e all c, h))))

-- the flag of a row is in no number
pub rows_alike : (e : Encoding) (bit bit' len : ℕ) → coded e ≡ false → (n : ℕ) {x r : Counted} → x ≡ r → grown_times e bit len n x ≡ grown_times e bit' len n r
rows_alike e bit bit' len c n {x} {r} q = ap (grown_times e bit len n) q ∙ rows_more e bit len c n r ∙ sym (rows_more e bit' len c n r)

-- ---- the first row
module _ (e : Encoding) (r : Counted) (bit len : ℕ) (stored joins : Bool) where
  pub first-few : r.bytes ≤ MOST_BYTES → (coded e ≡ true → r.counts ≤ MOST_BYTES) → (stored ≡ true → len ≤ MOST_BYTES) → (joins ≡ true → r.last < MOST_COUNT)
      → {x : Counted} → x ≡ grown e r bit len stored joins → (x.bytes ≤ 2 * MOST_BYTES) × (coded e ≡ true → x.counts ≤ 2 * MOST_BYTES)
  first-few b n l j q = rw q (bytes-few e r bit len stored joins b l, counts-few e r bit len stored joins n j)

  pub first_runs : coded e ≡ true → (joins ≡ true → 0 < r.runs) → {x : Counted} → x ≡ grown e r bit len stored joins → 0 < x.runs
  unfolding grown
  first_runs c j q = rw (q, c) (go joins j)
    where
      go : (joins : Bool) → (joins ≡ true → 0 < r.runs) → 0 < cond (not joins) (r.runs + 1) r.runs
      go true j = j refl
      go false j = omega arith

pub same-past : (k : Kind) (e : Encoding) {x r : Counted} → x ≡ r → {b : Bool} → b ≡ past_limits k e x → past_limits k e r ≡ b
same-past k e q p = sym (ap (past_limits k e) q) ∙ sym p
