-- The reader behind rows that are passed over: its record is as right as the one before. Assumes nothing.
use Prim.Native.Nat.{ℕ, ◌-◌, ◌≤◌}
use native.Mathlib.Omega.{arith}
use mathlib.Core.Path.{◌≡◌, refl}
use mathlib.Core.Bool.{false}
use mathlib.Core.List.{List}
use borrow.Author.Tests.{le-ltb}
use Rattle.limits.specs.Limits.{MOST_ITEMS, MOST_ENTRIES}
use Rattle.encode.specs.declared.Kind.{Kind}
use Rattle.rle.specs.declared.Spot.{Spot}
use Rattle.rle.specs.Stepping.{rows}
use Rattle.rle.proofs.Steps.{steps-end}
use Rattle.format.specs.declared.Encoding.{Encoding}
use Rattle.format.specs.declared.Encoding.TheVariants.{Plain, Nullable, RunLength, RunLengthNullable, Dictionary}
use Rattle.format.specs.declared.Head.{Head}
use Rattle.format.specs.Opening.{counts_in}
use Rattle.anatomy.specs.Tests.{runs_wrong, head_wrong}
use Rattle.anatomy.proofs.RightNumbers.{runs_of, null-runs-of, key-runs-of, entries-few}
use Rattle.block.specs.declared.Reader.{Reader}
use Rattle.block.specs.Reading.{next_steps, moved}
use Rattle.block.proofs.RecordTests.{RightRecord}

pub runs-kept : (h : Head) (run : ℕ) → h.runs ≤ MOST_ITEMS → run ≤ h.runs → runs_wrong h run ≡ false
unfolding runs_wrong
runs-kept h run m l = simp (le-ltb MOST_ITEMS h.runs m, le-ltb h.runs run l)

module _ (k : Kind) (r : Reader) (b : List ℕ) (n : ℕ) {is : List ℕ} {t : Spot} where
  -- the place in the runs stays within them
  head-kept : (e : Encoding) → RightRecord k e r → next_steps e r b n ≡ rows is t → head_wrong e r.head t.run ≡ false
  unfolding next_steps head_wrong
  head-kept Plain w q = refl
  head-kept Nullable w q = refl
  head-kept RunLength w q =
      let o = runs_of k r.rows r.len r.head r.spot.run w.numbers in
      runs-kept r.head _ o.runs (steps-end r.head.runs (counts_in RunLength r.head b) n r.spot q o.inside)
  head-kept RunLengthNullable w q =
      let o = null-runs-of k r.rows r.len r.head r.spot.run w.numbers in
      runs-kept r.head _ o.runs (steps-end r.head.runs (counts_in RunLengthNullable r.head b) n r.spot q o.inside)
  head-kept Dictionary w q =
      let o = key-runs-of k r.rows r.len r.head r.spot.run w.numbers in
      let l = runs-kept r.head _ o.runs (steps-end r.head.runs (counts_in Dictionary r.head b) n r.spot q o.inside) in
      simp (l, le-ltb MOST_ENTRIES r.head.entries (entries-few k r.rows r.len r.head r.spot.run w.numbers))

  pub moved-right : (e : Encoding) → RightRecord k e r → n ≤ r.rows - r.place → next_steps e r b n ≡ rows is t → RightRecord k e (moved r n t)
  moved-right e w l q =
      let g = w.numbers in
      record {
        place = omega (arith, w.place);
        nulls = omega (arith, w.nulls);
        numbers = record { size = g.size; rows = g.rows; head = head-kept e w q; parts = g.parts };
      }
