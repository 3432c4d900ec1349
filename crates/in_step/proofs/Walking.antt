-- What holds at each turn of the walk over two columns. Assumes nothing.
use Prim.Native.Nat.{ℕ, ◌+◌, ◌-◌, ◌≤◌, ◌<◌, ◌^◌}
use native.Mathlib.Omega.{arith}
use mathlib.Core.Bool.{Bool, not}
use mathlib.Core.List.{List, [], ◌++◌, map}
use mathlib.Core.Path.{◌≡◌, sym, ap, ◌∙◌}
use lib.ListN.{length, replicate, length-map}
use Rattle.encode.specs.declared.Kind.{Kind}
use Rattle.plain.specs.Rows.{Row, same}
use Rattle.dict.specs.Dictionary.{entry_row}
use Rattle.matching.specs.Matching.{Stored}
use Rattle.source.specs.declared.Source.{Source}
use Rattle.source.specs.declared.ShownRun.{ShownRun}
use Rattle.source.specs.Rows.{row_by}
use Rattle.ranges.specs.declared.Mark.{Mark}
use Rattle.ranges.specs.Recording.{mark, added, firsts_added, lasts_added, Recorded}
use Rattle.ranges.proofs.Recording.{length-put, recorded-start, recorded-add}
use Rattle.in_step.specs.Differences.{differences}
use Rattle.in_step.specs.Walking.{first, rows_walked, Walks}
use Rattle.std.specs.Prelude.{None}
use Rattle.in_step.proofs.Lists.{differences-append, differences-replicate, length-differences}
use Rattle.in_step.proofs.Sides.{shown, Side, side-start, side-long, side-end, side-take, side-rows}

module _ (a : Source) (a-counts a-marks a-items : List ℕ) (b : Source) (b-counts b-marks b-items : List ℕ) (n : ℕ) (firsts₀ lasts₀ : List ℕ) where
  abbrev a-row : ℕ → Row
  a-row = row_by a a-marks a-items

  abbrev b-row : ℕ → Row
  b-row = row_by b b-marks b-items

  pub record Walking (firsts lasts : List ℕ) (m : Mark) (left : ℕ) (x y : ShownRun) : Type 0 where
    pub a-front : List ℕ
    pub b-front : List ℕ
    pub a-side : Side a a-counts a-marks a-items n a-front x left
    pub b-side : Side b b-counts b-marks b-items n b-front y left
    pub recorded : Recorded (differences (map a-row a-front) (map b-row b-front)) m firsts₀ lasts₀ firsts lasts

  pub walking_start :
      Walks a a-counts a-marks a-items n → Walks b b-counts b-marks b-items n → {m : Mark} → m ≡ mark None 0 0
      → {x y : ShownRun} → x ≡ shown 0 0 first → y ≡ shown 0 0 first → Walking firsts₀ lasts₀ m n x y
  unfolding differences
  walking_start w v m x y = record {
    a-front = [];
    b-front = [];
    a-side = side-start a a-counts a-marks a-items n w x;
    b-side = side-start b b-counts b-marks b-items n v y;
    recorded = rw m (recorded-start firsts₀ lasts₀);
  }

  module _ {firsts lasts : List ℕ} {m : Mark} {left : ℕ} {x y : ShownRun} (f : Walking firsts lasts m left x y) where
    same-long : length (map a-row f.a-front) ≡ length (map b-row f.b-front)
    same-long = omega (arith, length-map f.a-front a-row, length-map f.b-front b-row, side-long f.a-side, side-long f.b-side)

    -- so the places marked so far and those that are left are all of them
    pub walking-fits : m.next + left ≡ n
    walking-fits =
        omega (arith, f.recorded.next, length-differences (map a-row f.a-front) (map b-row f.b-front) same-long, length-map f.a-front a-row, side-long f.a-side)

    -- the next run of either side
    pub with-a : {z : ShownRun} → Side a a-counts a-marks a-items n f.a-front z left → Walking firsts lasts m left z y
    with-a s = record { a-front = f.a-front; b-front = f.b-front; a-side = s; b-side = f.b-side; recorded = f.recorded }

    pub with-b : {z : ShownRun} → Side b b-counts b-marks b-items n f.b-front z left → Walking firsts lasts m left x z
    with-b s = record { a-front = f.a-front; b-front = f.b-front; a-side = f.a-side; b-side = s; recorded = f.recorded }

    -- the items of both runs, as comparing them asks
    pub a-stored : Walks a a-counts a-marks a-items n → Stored a.kind a.items a-items x.slot
    a-stored w = record { few = w.ready.few; inside = f.a-side.slot; whole = w.ready.whole; good = f.a-side.ends }

    pub b-stored : Walks b b-counts b-marks b-items n → a.kind ≡ b.kind → Stored a.kind b.items b-items y.slot
    b-stored w e = rw e (record { few = w.ready.few; inside = f.b-side.slot; whole = w.ready.whole; good = f.b-side.ends })

    pub items-told :
        a.kind ≡ b.kind → {t : Bool} → t ≡ same (entry_row a.kind a.items a-items x.slot) (entry_row a.kind b.items b-items y.slot)
        → not t ≡ not (same (entry_row a.kind a.items a-items x.slot) (entry_row b.kind b.items b-items y.slot))
    items-told e h = ap not (h ∙ ap (λ (k : Kind). same (entry_row a.kind a.items a-items x.slot) (entry_row k b.items b-items y.slot)) e)

    pub walking-long : (length firsts ≡ length firsts₀) × (length lasts ≡ length lasts₀)
    walking-long = (ap length f.recorded.firsts ∙ length-put firsts₀ _, ap length f.recorded.lasts ∙ length-put lasts₀ _)

    -- THE STEP: some rows of both runs, which differ as their items do
    module _ {k : ℕ} (some : 0 < k) (a-most : k ≤ x.rows) (b-most : k ≤ y.rows)
        {on : Bool} (told : on ≡ not (same (entry_row a.kind a.items a-items x.slot) (entry_row b.kind b.items b-items y.slot))) where
      rows_on : differences (map a-row (f.a-front ++ replicate k f.a-side.run)) (map b-row (f.b-front ++ replicate k f.b-side.run))
          ≡ differences (map a-row f.a-front) (map b-row f.b-front) ++ replicate k on
      rows_on =
          rw (side-rows f.a-side k a-most some, side-rows f.b-side k b-most some)
          (differences-append (map a-row f.a-front) (map b-row f.b-front) _ _ same-long
          ∙ ap (λ (l : List Bool). differences (map a-row f.a-front) (map b-row f.b-front) ++ l) (differences-replicate k _ _ ∙ ap (replicate k) (sym told)))

      pub walking-step :
          m.next + k < 2 ^ 64 → {m' : Mark} {firsts' lasts' : List ℕ} → m' ≡ added m on k → firsts' ≡ firsts_added m on k firsts → lasts' ≡ lasts_added m on k lasts
          → Walking firsts' lasts' m' (left - k) (shown x.slot (x.rows - k) x.next) (shown y.slot (y.rows - k) y.next)
      walking-step h p q r = record {
        a-front = f.a-front ++ replicate k f.a-side.run;
        b-front = f.b-front ++ replicate k f.b-side.run;
        a-side = side-take f.a-side k a-most;
        b-side = side-take f.b-side k b-most;
        recorded = rw (rows_on, p, q, r) (recorded-add f.recorded on k h);
      }

    pub walking-end : left ≤ 0 → Recorded (differences (rows_walked a a-counts a-marks a-items n) (rows_walked b b-counts b-marks b-items n)) m firsts₀ lasts₀ firsts lasts
    walking-end h = rw (side-end f.a-side h, side-end f.b-side h) f.recorded
