-- What numbers that contradict nothing tell of a block. Assumes nothing.
use Prim.Native.Nat.{ℕ, ◌+◌, ◌*◌, ◌≤◌}
use native.Mathlib.Omega.{arith}
use mathlib.Core.Path.{◌≡◌, refl, subst}
use mathlib.Core.Bool.{Bool, true, false, not, ◌&&◌}
use lib.Dec.{ltb, eqb}
use borrow.Author.Tests.{le-ltb, ltb-false, eqb-true}
use Rattle.limits.specs.Limits.{MOST_ITEMS, MOST_ENTRIES, MOST_BYTES}
use Rattle.encode.specs.declared.Kind.{Kind}
pub use Rattle.encode.proofs.Bools.{neither, both, clash as apart}
use Rattle.plain.specs.Plain.{least_bytes}
use Rattle.nullable.specs.Nullable.{bitmap_length}
use Rattle.format.specs.declared.Encoding.{Encoding}
use Rattle.format.specs.declared.Encoding.TheVariants.{Plain, Nullable, RunLength, RunLengthNullable, Dictionary}
use Rattle.format.specs.declared.Head.{Head}
use Rattle.format.specs.Opening.{most_rows}
use Rattle.anatomy.specs.Tests.{no_runs, runs_outside, part_outside, runs_wrong, head_wrong}
use Rattle.anatomy.specs.Parts.{Right}

-- ---- tests that all failed
not-both : (a b : Bool) → (not a && b) ≡ false → a ≡ false → b ≡ false
not-both true b h e = apart e
not-both false b h e = h

-- ---- the runs
pub record Runs (h : Head) (run : ℕ) : Type 0 where
  pub runs : h.runs ≤ MOST_ITEMS
  pub inside : run ≤ h.runs

pub runs-right : (h : Head) (run : ℕ) → runs_wrong h run ≡ false → Runs h run
unfolding runs_wrong
runs-right h run w =
    let a = neither (ltb MOST_ITEMS h.runs) (ltb h.runs run) w in
    record { runs = ltb-false MOST_ITEMS h.runs a.0; inside = ltb-false h.runs run a.1 }

pub no-runs : (h : Head) → no_runs h ≡ true → (h.runs ≡ 0) × (h.counts ≡ 0)
unfolding no_runs
no-runs h e = let a = both (eqb h.runs 0) (eqb h.counts 0) e in (eqb-true h.runs 0 a.0, eqb-true h.counts 0 a.1)

-- there are counts, and room for them and for what lies behind them
pub runs-inside : (len : ℕ) (h : Head) (least : ℕ) → runs_outside len h least ≡ false → no_runs h ≡ false → 8 + h.counts + least ≤ len
unfolding runs_outside
runs-inside len h least w s = ltb-false len (8 + h.counts + least) (not-both (no_runs h) _ w s)

-- the first run passes no runs
from_start : (h : Head) (run : ℕ) → runs_wrong h run ≡ false → runs_wrong h 0 ≡ false
unfolding runs_wrong
from_start h run w = let r = runs-right h run w in simp (le-ltb MOST_ITEMS h.runs r.runs, le-ltb h.runs 0 (omega arith))

pub head-start : (e : Encoding) (h : Head) (run : ℕ) → head_wrong e h run ≡ false → head_wrong e h 0 ≡ false
unfolding head_wrong
head-start Plain h run w = refl
head-start Nullable h run w = refl
head-start RunLength h run w = from_start h run w
head-start RunLengthNullable h run w = from_start h run w
head-start Dictionary h run w =
    let a = neither (runs_wrong h run) (ltb MOST_ENTRIES h.entries) w in
    simp (from_start h run a.0, a.1)

-- ---- by the encoding
module _ (k : Kind) (n len : ℕ) (h : Head) (run : ℕ) where
  pub plain_fits : Right k Plain n len h run → (n ≤ MOST_ITEMS) × (least_bytes k n ≤ len)
  unfolding most_rows part_outside
  plain_fits w = (w.rows, ltb-false len (least_bytes k n) w.parts)

  pub nullable-fits : Right k Nullable n len h run → (n ≤ MOST_ITEMS) × (least_bytes k n + (bitmap_length n + 4) ≤ len)
  unfolding most_rows part_outside
  nullable-fits w = (w.rows, ltb-false len (least_bytes k n + (bitmap_length n + 4)) w.parts)

  pub runs_of : Right k RunLength n len h run → Runs h run
  unfolding head_wrong
  runs_of w = runs-right h run w.head

  pub runs_fit : Right k RunLength n len h run → no_runs h ≡ false → 8 + h.counts + least_bytes k h.runs ≤ len
  unfolding part_outside
  runs_fit w s = runs-inside len h (least_bytes k h.runs) w.parts s

  pub null-runs-of : Right k RunLengthNullable n len h run → Runs h run
  unfolding head_wrong
  null-runs-of w = runs-right h run w.head

  pub null-runs-fit :
      Right k RunLengthNullable n len h run → no_runs h ≡ false
      → 8 + h.counts + (least_bytes k h.runs + (bitmap_length h.runs + 4)) ≤ len
  unfolding part_outside
  null-runs-fit w s = runs-inside len h (least_bytes k h.runs + (bitmap_length h.runs + 4)) w.parts s

  pub key-runs-of : Right k Dictionary n len h run → Runs h run
  unfolding head_wrong
  key-runs-of w = runs-right h run (neither (runs_wrong h run) (ltb MOST_ENTRIES h.entries) w.head).0

  pub entries-few : Right k Dictionary n len h run → h.entries ≤ MOST_ENTRIES
  unfolding head_wrong
  entries-few w = ltb-false MOST_ENTRIES h.entries (neither (runs_wrong h run) (ltb MOST_ENTRIES h.entries) w.head).1

  pub entries_fit : Right k Dictionary n len h run → 12 + h.keys + least_bytes k h.entries ≤ len
  unfolding part_outside
  entries_fit w = ltb-false len (12 + h.keys + least_bytes k h.entries) (neither (ltb len (12 + h.keys + least_bytes k h.entries)) _ w.parts).0

  pub keys-fit : Right k Dictionary n len h run → no_runs h ≡ false → 8 + h.counts + 4 * h.runs ≤ h.keys
  unfolding part_outside
  keys-fit w s =
      runs-inside h.keys h (4 * h.runs) (neither (ltb len (12 + h.keys + least_bytes k h.entries)) _ w.parts).1 s

-- ---- what taking the block apart asks, for the encoding that a match found
module _ (k : Kind) (e : Encoding) (n len : ℕ) (h : Head) (w : Right k e n len h 0) where
  right-as : (f : Encoding) → e ≡ f → Right k f n len h 0
  right-as f q = subst (λ (x : Encoding). Right k x n len h 0) q w

  pub nullable-asks : e ≡ Nullable → (n ≤ MOST_ITEMS) × (bitmap_length n + 4 ≤ len)
  nullable-asks q = let f = nullable-fits k n len h 0 (right-as Nullable q) in (f.0, omega arith)

  pub runs-ask : e ≡ RunLength → no_runs h ≡ false → 8 + h.counts ≤ MOST_BYTES
  runs-ask q s =
      let f = runs_fit k n len h 0 (right-as RunLength q) s in
      let l = w.size in
      omega arith

  pub null-runs-ask :
      e ≡ RunLengthNullable
      → (h.runs ≤ MOST_ITEMS) × (len ≤ MOST_BYTES) × (no_runs h ≡ false → 8 + h.counts + (bitmap_length h.runs + 4) ≤ len)
  null-runs-ask q =
      let v = right-as RunLengthNullable q in
      ((null-runs-of k n len h 0 v).runs, w.size, λ s. let f = null-runs-fit k n len h 0 v s in omega arith)

  pub keys-ask : e ≡ Dictionary → (12 + h.keys ≤ MOST_BYTES) × (no_runs h ≡ false → 8 + h.counts ≤ h.keys)
  keys-ask q =
      let v = right-as Dictionary q in
      let f = entries_fit k n len h 0 v in
      let l = w.size in
      (omega arith, λ s. let g = keys-fit k n len h 0 v s in omega arith)
