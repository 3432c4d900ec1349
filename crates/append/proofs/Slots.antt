-- The slots that a row needs are there: those of its item, and those of its run. Assumes nothing.
use Prim.Native.Nat.{ℕ, ◌+◌, ◌/◌, ◌≤◌, ◌<◌}
use native.Mathlib.Omega.{arith}
use mathlib.Core.Path.{◌≡◌, refl, sym, ap, subst, ◌∙◌}
use mathlib.Core.Bool.{Bool, true, false, cond, not, ◌&&◌}
use mathlib.Core.List.{List}
use lib.IntN.{ℤ}
use lib.ListN.{length}
use borrow.Author.Tests.{ltb-false}
use Rattle.limits.specs.Limits.{MOST_COUNT}
use Rattle.encode.specs.declared.Kind.{Kind}
use Rattle.encode.specs.declared.Kind.TheVariants.{Char, Blob}
use Rattle.encode.proofs.Bools.{clash as apart}
use Rattle.plain.specs.Rows.{Row, fits}
use Rattle.plain.specs.Plain.{item_of}
use Rattle.nullable.specs.Nullable.{bitmap_length}
use Rattle.format.specs.declared.Encoding.{Encoding}
use Rattle.format.specs.declared.Encoding.TheVariants.{Plain, Nullable, RunLength, RunLengthNullable, Dictionary}
use Rattle.needs.specs.declared.Counted.{Counted}
use Rattle.needs.specs.Needs.{coded, flagged, keyed, stored_by, past_limits, fields_short, too_short}
use Rattle.needs.proofs.Limits.{limit-holds}
use Rattle.needs.proofs.Short.{Fitting, fitting}
use Rattle.step.specs.Counting.{grown}
use Rattle.step.proofs.Growth.{finished-holds, not-joined}
use Rattle.append.specs.Appending.{Lent, room_of}
use Rattle.append.specs.Asking.{Stores}

-- ---- the slots of the row
module _ (e : Encoding) (r : Counted) (bit len : ℕ) where
  stored_next : (joins : Bool) → (keyed e ≡ false → true ≡ not joins) → stored_by e (grown e r bit len true joins) ≡ stored_by e r + 1
  unfolding stored_by grown keyed coded
  stored_next joins h = go e joins h
    where
      go : (e : Encoding) (joins : Bool) → (keyed e ≡ false → true ≡ not joins) → stored_by e (grown e r bit len true joins) ≡ stored_by e r + 1
      go Plain joins h = refl
      go Nullable joins h = refl
      go RunLength true h = apart (h refl)
      go RunLength false h = refl
      go RunLengthNullable true h = apart (h refl)
      go RunLengthNullable false h = refl
      go Dictionary joins h = refl

ends-room : (k : Kind) (n : ℕ) (a : Lent) → fields_short k (n + 1) (room_of a) ≡ false → (text : Bool) → k ≡ Blob text → n < length a.ends
unfolding fields_short room_of
ends-room k n a h text q = let g = ltb-false (length a.ends) (n + 1) (sym (ap (λ (j : Kind). fields_short j (n + 1) (room_of a)) q) ∙ h) in omega arith

lens-room : (k : Kind) (n : ℕ) (a : Lent) → fields_short k (n + 1) (room_of a) ≡ false → (w : ℕ) → k ≡ Char w → n < length a.lens
unfolding fields_short room_of
lens-room k n a h w q = let g = ltb-false (length a.lens) (n + 1) (sym (ap (λ (j : Kind). fields_short j (n + 1) (room_of a)) q) ∙ h) in omega arith

flag-room : (n l : ℕ) → bitmap_length (n + 1) ≤ l → n / 8 < l
unfolding bitmap_length
flag-room n l h = omega arith

bytes_next : (e : Encoding) (r : Counted) (bit len : ℕ) (joins : Bool) → (grown e r bit len true joins).bytes ≡ r.bytes + len
unfolding grown
bytes_next e r bit len joins = refl

stored-slots :
    (e : Encoding) (r : Counted) (k : Kind) (a : Lent) (bit len : ℕ) (joins : Bool) → (keyed e ≡ false → true ≡ not joins)
    → past_limits k e (grown e r bit len true joins) ≡ false → Fitting k e (grown e r bit len true joins) (room_of a)
    → (row : Row) → fits k row ≡ true → len ≡ length (item_of k row) → Stores k (flagged e) (stored_by e r) r.bytes row len a.items a.ends a.flags a.lens
unfolding room_of
stored-slots e r k a bit len joins j p f row t l =
    let n = stored_next e r bit len joins j in
    let b = bytes_next e r bit len joins in
    let h = finished-holds k e r bit len joins (λ z. not-joined joins (j z)) in
    let m = limit-holds k e (grown e r bit len true joins) p in
    let i = f.items in
    let g : fields_short k (stored_by e r + 1) (room_of a) ≡ false = sym (ap (λ (x : ℕ). fields_short k x (room_of a)) n) ∙ f.fields in
    record {
      taken = t;
      long = l;
      items = omega (arith, i, b);
      small = omega (arith, h, m);
      ends = ends-room k (stored_by e r) a g;
      lens = lens-room k (stored_by e r) a g;
      flags = λ t. flag-room (stored_by e r) (length a.flags) (subst (λ (x : ℕ). bitmap_length x ≤ length a.flags) n (f.flags t));
    }

-- the slots of its run
abbrev pub Counts : Counted → Bool → Bool → List ℕ → List ℤ → Type 0
Counts r keyed joins cs ks =
    (joins ≡ true → (0 < r.runs) × (r.runs ≤ length cs) × (r.last < MOST_COUNT)) × (joins ≡ false → r.runs < length cs)
    × ((keyed && not joins) ≡ true → r.runs < length ks)

run-slots :
    (e : Encoding) (r : Counted) (k : Kind) (a : Lent) (bit len : ℕ) (item joins : Bool) → Fitting k e (grown e r bit len item joins) (room_of a)
    → (joins ≡ true → (0 < r.runs) × (r.last < MOST_COUNT)) → coded e ≡ true → {d : Bool} → d ≡ keyed e → Counts r d joins a.counts a.keys
unfolding room_of grown
run-slots e r k a bit len item true f o c {d} q =
    let i = f.counts c in
    let z : cond (coded e && false) (r.runs + 1) r.runs ≡ r.runs = ap (λ (b : Bool). cond (b && false) (r.runs + 1) r.runs) c in
    (λ t. ((o t).0, omega (arith, i, z), (o t).1), λ t. apart t, λ t. apart (not-both d t))
  where
    not-both : (x : Bool) → (x && false) ≡ true → true ≡ false
    not-both true h = sym h
    not-both false h = sym h
run-slots e r k a bit len item false f o c {d} q =
    let i = f.counts c in
    let n : (grown e r bit len item false).runs ≡ r.runs + 1 = ap (λ (b : Bool). cond (b && true) (r.runs + 1) r.runs) c in
    (λ t. apart (sym t), λ t. omega (arith, i, n), λ t. let g = f.keys (sym q ∙ both_so d t) in omega (arith, g, n))
  where
    both_so : (x : Bool) → (x && true) ≡ true → x ≡ true
    both_so true h = refl
    both_so false h = h

module _ (k : Kind) (e : Encoding) (r : Counted) (a : Lent) (bit len : ℕ) (item joins : Bool) (j : keyed e ≡ false → item ≡ not joins)
    (p : past_limits k e (grown e r bit len item joins) ≡ false) (s : too_short k e (grown e r bit len item joins) (room_of a) ≡ false) where
  fits_next : Fitting k e (grown e r bit len item joins) (room_of a)
  fits_next = fitting k e (grown e r bit len item joins) (room_of a) s

  pub stores : (row : Row) → fits k row ≡ true → len ≡ length (item_of k row) → item ≡ true → Stores k (flagged e) (stored_by e r) r.bytes row len a.items a.ends a.flags a.lens
  stores row t l i = go item i j p fits_next
    where
      go :
          (item : Bool) → item ≡ true → (keyed e ≡ false → item ≡ not joins) → past_limits k e (grown e r bit len item joins) ≡ false
          → Fitting k e (grown e r bit len item joins) (room_of a) → Stores k (flagged e) (stored_by e r) r.bytes row len a.items a.ends a.flags a.lens
      go false i j p f = apart (sym i)
      go true i j p f = stored-slots e r k a bit len joins j p f row t l

  pub counts : (joins ≡ true → (0 < r.runs) × (r.last < MOST_COUNT)) → coded e ≡ true → {d : Bool} → d ≡ keyed e → Counts r d joins a.counts a.keys
  counts o c q = run-slots e r k a bit len item joins fits_next o c q
