-- The numbers with a row counted in, within the limits, and the areas with it written, of as many slots as before, agree. For any numbers and all
-- memory. Assumes nothing.
use Prim.Native.Nat.{ℕ, ◌+◌, ◌-◌, ◌*◌, ◌≤◌, ◌<◌}
use native.Mathlib.Nat.{suc-mul}
use native.Mathlib.Numerals.{add-one}
use native.Mathlib.Omega.{arith}
use mathlib.Core.Bool.{Bool, true, false, cond, not, ◌&&◌}
use mathlib.Core.List.{List, [], ◌∷◌}
use mathlib.Core.Path.{◌≡◌, refl, sym, ap}
use lib.Dec.{ltb}
use lib.IntN.{ℤ}
use lib.ListN.{length, set, length-set}
use borrow.Author.Tests.{le-ltb, eqb-true, eq-eqb, ne_eqb, not-false}
use Rattle.limits.specs.Limits.{MOST_BYTES}
use Rattle.area.specs.Area.{over}
use Rattle.area.proofs.Laws.{over-length}
use Rattle.encode.specs.declared.Kind.{Kind}
use Rattle.encode.specs.declared.Kind.TheVariants.{Fixed, Char, Blob}
use Rattle.encode.specs.Kinds.{width_of}
use Rattle.encode.proofs.Bools.{clash, or-none}
use Rattle.encode.proofs.RoundTrip.{item-length}
use Rattle.plain.specs.Rows.{Row, int_in, bytes_in, fits}
use Rattle.plain.specs.Plain.{item_of}
use Rattle.plain.proofs.Each.{char-wide}
use Rattle.nullable.specs.Nullable.{presence}
use Rattle.format.specs.declared.Encoding.{Encoding}
use Rattle.format.specs.declared.Encoding.TheVariants.{Plain, Nullable, RunLength, RunLengthNullable, Dictionary}
use Rattle.slots.specs.Slots.{ends_with, lens_with, flags_with, counts_with}
use Rattle.needs.specs.declared.Counted.{Counted}
use Rattle.needs.specs.declared.Room.{Room}
use Rattle.needs.specs.Needs.{coded, flagged, keyed, stored_by, inner_bytes, finished_bytes, past_limits, bytes_wrong, record_wrong, too_short, disagree}
use Rattle.needs.proofs.Lengths.{run-some}
use Rattle.needs.proofs.Limits.{limit-holds}
use Rattle.step.specs.Counting.{grown}
use Rattle.append.specs.Appending.{Lent, room_of, laid}

-- ---- areas that stay as long as they are
module _ {A : Type 0} where
  kept_if : (b : Bool) (x y : List A) → (b ≡ true → length x ≡ length y) → length (cond b x y) ≡ length y
  kept_if true x y h = h refl
  kept_if false x y h = refl

ends-kept : (k : Kind) (i v : ℕ) (l : List ℕ) → length (ends_with k i v l) ≡ length l
unfolding ends_with
ends-kept (Fixed p) i v l = refl
ends-kept (Char w) i v l = refl
ends-kept (Blob text) i v l = length-set l i v

lens-kept : (k : Kind) (i v : ℕ) (l : List ℕ) → length (lens_with k i v l) ≡ length l
unfolding lens_with
lens-kept (Fixed p) i v l = refl
lens-kept (Char w) i v l = length-set l i v
lens-kept (Blob text) i v l = refl

flags-kept : (i v : ℕ) (l : List ℕ) → length (flags_with i v l) ≡ length l
unfolding flags_with
flags-kept i v l = length-set l _ _

counts-kept : (joins : Bool) (n m : ℕ) (l : List ℕ) → length (counts_with n m joins l) ≡ length l
unfolding counts_with
counts-kept true n m l = length-set l (n - 1) (m + 1)
counts-kept false n m l = length-set l n 1

pub room-kept : (k : Kind) (e : Encoding) (r : Counted) (row : Row) (item joins : Bool) (key : ℤ) (a : Lent)
    → (item ≡ true → r.bytes + length (item_of k row) ≤ length a.items) → room_of (laid k e r row item joins key a) ≡ room_of a
unfolding laid room_of
room-kept k e r row item joins key a h =
    let n : ℕ = stored_by e r in
    let end : ℕ = r.bytes + length (item_of k row) in
    let len : ℕ = length (bytes_in row) in
    rw (
      kept_if item (over a.items r.bytes (item_of k row)) a.items (λ t. over-length (item_of k row) a.items r.bytes (h t)),
      kept_if item (ends_with k n end a.ends) a.ends (λ t. ends-kept k n end a.ends),
      kept_if (item && flagged e) (flags_with n (presence row) a.flags) a.flags (λ t. flags-kept n (presence row) a.flags),
      kept_if (coded e) (counts_with r.runs r.last joins a.counts) a.counts (λ t. counts-kept joins r.runs r.last a.counts),
      kept_if (keyed e && not joins) (set a.keys r.runs key) a.keys (λ t. length-set a.keys r.runs key),
      kept_if item (lens_with k n len a.lens) a.lens (λ t. lens-kept k n len a.lens),
    )

-- ---- the item bytes are the need of one item more
more-items : (n w len item : ℕ) → len ≡ n * w → item ≡ w → len + item ≡ (n + 1) * w
more-items n w len item a b = rw (add-one, suc-mul) (omega arith)

bytes_next : (k : Kind) (n len : ℕ) (row : Row) → fits k row ≡ true → bytes_wrong k n len ≡ false → bytes_wrong k (n + 1) (len + length (item_of k row)) ≡ false
unfolding bytes_wrong item_of
bytes_next (Fixed p) n len row f h =
    ap not
    (eq-eqb (len + length (item_of (Fixed p) row)) ((n + 1) * width_of p)
    (more-items n (width_of p) len (length (item_of (Fixed p) row)) (eqb-true len (n * width_of p) (not-false _ h)) (item-length p (int_in row))))
bytes_next (Char w) n len row f h =
    ap not
    (eq-eqb (len + length (item_of (Char w) row)) ((n + 1) * w)
    (more-items n w len (length (item_of (Char w) row)) (eqb-true len (n * w) (not-false _ h)) (char-wide w (row ∷ []) (f, tt)).0))
bytes_next (Blob text) n len row f h = rw (ne_eqb (n + 1) 0 (λ (q : n + 1 ≡ 0). omega (arith, q)))

stored_next : (e : Encoding) (r : Counted) (bit len : ℕ) (item joins : Bool) → (coded e ≡ false → item ≡ true) → (keyed e ≡ false → item ≡ not joins)
    → stored_by e (grown e r bit len item joins) ≡ cond item (stored_by e r + 1) (stored_by e r)
unfolding stored_by grown coded keyed
stored_next Plain r bit len true joins c t = refl
stored_next Plain r bit len false joins c t = clash (sym (c refl))
stored_next Nullable r bit len true joins c t = refl
stored_next Nullable r bit len false joins c t = clash (sym (c refl))
stored_next RunLength r bit len item joins c t = rw (t refl)
stored_next RunLengthNullable r bit len item joins c t = rw (t refl)
stored_next Dictionary r bit len item joins c t = refl

-- ---- the counts' byte length is held by the finished block's
counts-held : (k : Kind) (e : Encoding) (r : Counted) → coded e ≡ true → 0 < r.runs → r.counts ≤ finished_bytes k e r
unfolding finished_bytes coded
counts-held k Plain r c h = clash (sym c)
counts-held k Nullable r c h = clash (sym c)
counts-held k RunLength r c h = let z = run-some r (inner_bytes k RunLength r) (λ q. omega (arith, q)) in omega arith
counts-held k RunLengthNullable r c h = let z = run-some r (inner_bytes k RunLengthNullable r) (λ q. omega (arith, q)) in omega arith
counts-held k Dictionary r c h = let z = run-some r (4 * r.runs) (λ q. omega (arith, q)) in omega arith

some_runs : (e : Encoding) (r : Counted) (bit len : ℕ) (item joins : Bool) → coded e ≡ true → (joins ≡ true → 0 < r.runs)
    → 0 < (grown e r bit len item joins).runs
unfolding grown
some_runs e r bit len item true c j = let z = j refl in rw c (omega arith)
some_runs e r bit len item false c j = rw c (omega arith)

counts-right : (b : Bool) (n : ℕ) → (b ≡ true → n ≤ MOST_BYTES) → (b && ltb MOST_BYTES n) ≡ false
counts-right true n h = le-ltb MOST_BYTES n (h refl)
counts-right false n h = refl

-- ---- they agree
module _ (k : Kind) (e : Encoding) (r : Counted) (row : Row) (item joins : Bool) where
  abbrev next : Counted
  next = grown e r (presence row) (length (item_of k row)) item joins

  items-next : (keyed e ≡ false → item ≡ not joins) → (coded e ≡ false → item ≡ true) → fits k row ≡ true → bytes_wrong k (stored_by e r) r.bytes ≡ false
      → bytes_wrong k (stored_by e next) next.bytes ≡ false
  unfolding grown
  items-next t c f h =
      rw (stored_next e r (presence row) (length (item_of k row)) item joins c t) (go item)
    where
      go : (b : Bool) → bytes_wrong k (cond b (stored_by e r + 1) (stored_by e r)) (cond b (r.bytes + length (item_of k row)) r.bytes) ≡ false
      go true = bytes_next k (stored_by e r) r.bytes row f h
      go false = h

  pub agree-again : (m : Room) → (keyed e ≡ false → item ≡ not joins) → (coded e ≡ false → item ≡ true) → (joins ≡ true → 0 < r.runs) → fits k row ≡ true
      → bytes_wrong k (stored_by e r) r.bytes ≡ false → past_limits k e next ≡ false → too_short k e next m ≡ false → disagree k e next m ≡ false
  unfolding disagree record_wrong
  agree-again m t c j f h p s =
      let l = limit-holds k e next p in
      or-none
      (or-none
      (or-none
      (counts-right (coded e) next.counts
      (λ q. let z = counts-held k e next q (some_runs e r (presence row) (length (item_of k row)) item joins q j) in omega arith))
      (items-next t c f h)) p) s
