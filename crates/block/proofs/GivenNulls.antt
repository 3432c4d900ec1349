-- The nulls among rows that were written: their flags are 0, and where there are no marks there are none. Assumes nothing.
use Prim.Native.Nat.{ℕ, ◌+◌, ◌≤◌}
use native.Mathlib.Nat.{min-le_right}
use native.Mathlib.Omega.{arith}
use mathlib.Core.Path.{◌≡◌, refl, sym, ap, ◌∙◌}
use mathlib.Core.Bool.{Bool, true, false, cond}
use mathlib.Core.List.{List, [], ◌∷◌, map}
use lib.ListN.{length, take, drop, length-take, length-map}
use lib.Seq.{take_at}
use Rattle.std.specs.Prelude.{Ok}
use Rattle.limits.specs.Refusals.{ROOM, DISAGREE}
use Rattle.encode.specs.declared.Kind.{Kind}
use Rattle.encode.specs.declared.Kind.TheVariants.{Fixed, Char, Blob}
use Rattle.area.specs.Area.{over}
use Rattle.zeros.specs.Zeros.{zero_in, zeros_in}
use Rattle.plain.specs.Rows.{Row}
use Rattle.plain.specs.Plain.{all_of}
use Rattle.nullable.specs.Nullable.{presence}
use Rattle.rle.specs.declared.Spot.{Spot}
use Rattle.rle.specs.Stepping.{Steps, stuck, rows}
use Rattle.source.specs.declared.Marks.{Marks}
use Rattle.source.specs.declared.Marks.TheVariants.{Bare, Bits, Keys}
use Rattle.source.specs.Rows.{flag_by}
use Rattle.anatomy.specs.declared.Parts.{Parts}
use Rattle.anatomy.specs.Parts.{marks_in, items_in}
use Rattle.part_rows.specs.PartRows.{steps_by, row_in, good_in}
use Rattle.part_rows.proofs.Places.{length-steps}
use Rattle.part_rows.proofs.FlagRows.{bare-flag}
use Rattle.fill.specs.declared.Filled.{Filled}
use Rattle.fill.specs.Areas.{Areas, is_bytes, short, filled_in, given_bytes}
use Rattle.fill.specs.Filling.{Filling, filled, refused_filling, next_by, write_rows, filling_by, filling}
use Rattle.block.specs.Spots.{nulls_by}

-- ---- the flags that rows leave behind are theirs
laid-first : (rs : List Row) (flags : List ℕ) → take (length rs) (over flags 0 (map presence rs)) ≡ map presence rs
unfolding over
laid-first rs flags = take_at (map presence rs) (drop (0 + length (map presence rs)) flags) (length rs) (length-map rs presence)

pub flags-back : (k : Kind) (rs : List Row) (a : Areas) → take (length rs) (filled_in k rs a).flags ≡ map presence rs
unfolding filled_in is_bytes
flags-back (Fixed p) rs a = laid-first rs a.flags
flags-back (Char w) rs a = laid-first rs a.flags
flags-back (Blob text) rs a = laid-first rs a.flags

-- ---- rows with no marks
bare-none : (p : Parts) (b : List ℕ) → p.source.marks ≡ Bare → (is : List ℕ) → zeros_in (map presence (map (row_in p b) is)) ≡ 0
unfolding zeros_in zero_in flag_by
bare-none p b m [] = refl
bare-none p b m (i ∷ is) = rw (bare-flag p.source (marks_in p b) (items_in p b) m i, bare-none p b m is)

by-marks : (m : Marks) (fs : List ℕ) → (m ≡ Bare → zeros_in fs ≡ 0) → nulls_by m fs ≡ zeros_in fs
unfolding nulls_by
by-marks Bare fs h = sym (h refl)
by-marks Bits fs h = refl
by-marks Keys fs h = refl

-- ---- rows that were written
record Wrote (p : Parts) (b : List ℕ) (n : ℕ) (a : Areas) (f : Filling) : Type 0 where
  is : List ℕ
  long : length (map (row_in p b) is) ≡ n
  there : f.areas ≡ filled_in p.source.kind (map (row_in p b) is) a

module _ (p : Parts) (from : Spot) (b : List ℕ) (n : ℕ) (a : Areas) where
  wrote-rows : (is : List ℕ) (t : Spot) → length (map (row_in p b) is) ≡ n
      → {x : Filled} → let f = write_rows p.source.kind (map (row_in p b) is) t a in f.answer ≡ Ok x → Wrote p b n a f
  unfolding write_rows
  wrote-rows is t l {x = y} = go (short p.source.kind (map (row_in p b) is) a)
    where
      rs : List Row
      rs = map (row_in p b) is

      done : Filling
      done = record { answer = Ok (filled (given_bytes p.source.kind rs) t); areas = filled_in p.source.kind rs a }

      go : (x : Bool) → (cond x (refused_filling ROOM a) done).answer ≡ Ok y
          → Wrote p b n a (cond x (refused_filling ROOM a) done)
      go true h = let z : ◌≡◌ {A = ℕ} 0 1 = cc in absurd (omega arith)
      go false h = record { is = is; long = l; there = refl }

  wrote_by : (w : Steps) {x : Filled} → steps_by p from b n ≡ w → (filling_by p from b a w).answer ≡ Ok x → Wrote p b n a (filling_by p from b a w)
  unfolding filling_by
  wrote_by stuck q h = let z : ◌≡◌ {A = ℕ} 0 1 = cc in absurd (omega arith)
  wrote_by (rows is t) {x = y} q h = go (all_of (good_in p b) is) h
    where
      f : Filling
      f = write_rows p.source.kind (map (row_in p b) is) (next_by p.source.coded from t) a

      go : (x : Bool) → (cond x f (refused_filling DISAGREE a)).answer ≡ Ok y → Wrote p b n a (cond x f (refused_filling DISAGREE a))
      go true z = wrote-rows is (next_by p.source.coded from t) (length-map is (row_in p b) ∙ length-steps p from b n q) z
      go false z = let z : ◌≡◌ {A = ℕ} 0 1 = cc in absurd (omega arith)

  module _ {x : Filled} (done : (filling p from b n a).answer ≡ Ok x) where
    wrote : Wrote p b n a (filling p from b n a)
    wrote = wrote_by (steps_by p from b n) refl done

    flags-are : take n (filling p from b n a).areas.flags ≡ map presence (map (row_in p b) wrote.is)
    flags-are =
        let rs = map (row_in p b) wrote.is in
        ap (λ (x : Areas). take n x.flags) wrote.there
        ∙ ap (λ (m : ℕ). take m (filled_in p.source.kind rs a).flags) (sym wrote.long)
        ∙ flags-back p.source.kind rs a

    -- there are as many flags
    pub flags-fit : n ≤ length (filling p from b n a).areas.flags
    flags-fit =
        let fs = (filling p from b n a).areas.flags in
        let t = length-take n fs in
        let m = min-le_right n (length fs) in
        let l = ap length flags-are ∙ length-map (map (row_in p b) wrote.is) presence ∙ wrote.long in
        omega arith

    -- and the zeros among them are what is counted by the marks
    pub nulls-by-marks : nulls_by p.source.marks (take n (filling p from b n a).areas.flags) ≡ zeros_in (take n (filling p from b n a).areas.flags)
    nulls-by-marks = by-marks p.source.marks _ (λ m. ap zeros_in flags-are ∙ bare-none p b m wrote.is)
