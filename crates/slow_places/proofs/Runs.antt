-- A row that lies in a run: the run's item, in the block behind the counts. Assumes nothing.
use Rattle.std.specs.Prelude.{Ok}
use Prim.Native.Nat.{ℕ, zero, suc, ◌+◌, ◌-◌, ◌*◌, ◌^◌, ◌≤◌, ◌<◌}
use native.Mathlib.Omega.{arith}
use mathlib.Core.Bool.{Bool, true, false}
use mathlib.Core.List.{List, [], ◌∷◌, map}
use mathlib.Core.Logic.{⊎_elim}
use mathlib.Core.Path.{◌≡◌, refl, sym, ◌∙◌}
use lib.ListN.{length, take, drop, get_or, length-drop}
use lib.Seq.{take_all, drop-drop, length-take-le}
use Rattle.limits.specs.Limits.{MOST_ITEMS, MOST_BYTES}
use Rattle.encode.specs.Bytes.{number_of}
use Rattle.encode.specs.declared.Kind.{Kind}
use Rattle.plain.specs.Rows.{Row, null}
use Rattle.rle.specs.RunLength.{runs_in, counts_length, counts_part, inner_part, walked, run_length_number, run_numbers}
use Rattle.rle.specs.Stepping.{spot}
use Rattle.rle.proofs.Steps.{steps-length}
use Rattle.rle.proofs.Whole.{whole-steps}
use Rattle.dict.specs.Dictionary.{slot_at}
use Rattle.format.specs.declared.Encoding.TheVariants.{RunLength, RunLengthNullable}
use Rattle.format.specs.Opening.{rules_of, most_rows, head_of, row_at, counts_in, places_of, rows_of}
use Rattle.format.proofs.Sound.{NoRuns, SomeRuns, SoundRuns, runs-sound}
use Rattle.slow_numbers.specs.Numbers.{order_by}
use Rattle.slow_counts.specs.Within.{Within}
use Rattle.slow_places.specs.declared.Place.{Place}
use Rattle.slow_places.specs.declared.InRun.{InRun}
use Rattle.slow_places.specs.Places.{Opened, Shows}
use Rattle.slow_places.specs.Inner.{Told, Has, items_by, runs_by, items_of, Counted, run_at, Lies, moved_by}
use Rattle.slow_places.proofs.Items.{plain_row_lem, nullable-row}

-- ---- the numbers at the head, the counts behind it and all that is behind those, as they are read
module _ (b : List ℕ) {u : ℕ} where
  pub runs-read : u ≡ number_of (order_by false) (take 4 b) → u ≡ runs_in b
  unfolding runs_in order_by
  runs-read e = e

  pub length-read : u ≡ number_of (order_by false) (take 4 (drop 4 b)) → u ≡ counts_length b
  unfolding counts_length order_by
  length-read e = e

  counts-read : u ≡ counts_length b → take (8 + u - 8) (drop 8 b) ≡ counts_part (counts_length b) b
  unfolding counts_part
  counts-read e = let m : 8 + u - 8 ≡ counts_length b = omega arith in rw m

  items-read : u ≡ 8 + counts_length b → take (length b - u) (drop u b) ≡ items_of b
  unfolding inner_part
  items-read e = take_all (length b - u) (drop u b) (omega (arith, length-drop u b)) ∙ rw e

-- ---- the run that is found from them, and its key
pub run-asked : {b : List ℕ} {row : ℕ} → Counted b row → {runs u : ℕ} → runs ≡ runs_in b → u ≡ counts_length b
    → (runs ≤ MOST_ITEMS) × (length (take (8 + u - 8) (drop 8 b)) ≤ MOST_BYTES) × Within runs (take (8 + u - 8) (drop 8 b)) row
run-asked {b} h {runs} {u} e f =
    let m = h.room in
    let s = h.short in
    let long : length (take (8 + u - 8) (drop 8 b)) ≡ 8 + u - 8 = length-take-le (8 + u - 8) (drop 8 b) (omega (arith, length-drop 8 b)) in
    (omega (arith, h.many), omega arith, rw (e, counts-read b f) h.within)

pub run-found : {b : List ℕ} {row runs u run : ℕ} → runs ≡ runs_in b → u ≡ counts_length b
    → run ≡ get_or (run_numbers runs 0 (take (8 + u - 8) (drop 8 b))) row 0 → run < runs
    → Lies b row (record { runs = runs; inner = 8 + u; run = run })
run-found {b} e f g l = record { runs = e; inner = omega arith; run = rw (e, counts-read b f) at g; below = l }

module _ {b : List ℕ} {row : ℕ} {r : InRun} (f : Lies b row r) where
  found_below : run_at b row < runs_in b
  found_below = omega (arith, f.runs, f.run, f.below)

  pub key-asked : Counted b row → 4 * runs_in b ≤ length (items_of b)
      → (r.run < MOST_ITEMS) × (4 * r.run + 4 ≤ length (take (length b - r.inner) (drop r.inner b)))
  key-asked h m =
      let l = f.below in
      let e = f.runs in
      (omega (arith, h.many), rw (items-read b f.inner) (omega arith))

  pub key-found : {slot : ℕ} → slot ≡ slot_at (take (length b - r.inner) (drop r.inner b)) r.run
      → (slot ≡ slot_at (items_of b) (run_at b row)) × (run_at b row < runs_in b)
  key-found g = (rw (items-read b f.inner, f.run) at g, found_below)

-- ---- a sound block, of items of any kind, and a row of it
-- what a function gives at a place that is there
map_at : {B : Type 0} (f : ℕ → B) (is : List ℕ) (i : ℕ) (d : B) → i < length is → get_or (map f is) i d ≡ f (get_or is i 0)
map_at f [] i d l = absurd (omega arith)
map_at f (x ∷ is) zero d l = refl
map_at f (x ∷ is) (suc i) d l = map_at f is i d (omega arith)

-- the runs have as many rows as the walk over their counts adds up
run-count : (runs : ℕ) (counts : List ℕ) (n : ℕ) → walked runs counts ≡ Ok n → length (run_numbers runs 0 counts) ≡ n
run-count runs counts n e = steps-length runs counts n (spot 0 0 0) (whole-steps runs counts n e).1

module _ (inner : ℕ → List ℕ → ℕ) {n : ℕ} {b : List ℕ} (s : SoundRuns inner n b (runs_in b) (counts_length b)) {row : ℕ} (l : row < n) where
  pub some_runs : SomeRuns inner b (runs_in b) (counts_length b)
  some_runs = ⊎_elim
      (λ (z : NoRuns n b (runs_in b) (counts_length b)). absurd (omega (arith, z.no_rows)))
      (λ (z : SomeRuns inner b (runs_in b) (counts_length b)). z)
      s.either

  pub counted : length b ≤ MOST_BYTES → Counted b row
  counted h = record { short = h; many = s.many; room = some_runs.room; within = record { rows = n; walks = s.sum; inside = l } }

  pub row_of_run : (f : ℕ → Row) → get_or (map f (run_numbers (runs_in b) 0 (counts_part (counts_length b) b))) row null ≡ f (run_at b row)
  row_of_run f =
      let counts = counts_part (counts_length b) b in
      map_at f (run_numbers (runs_in b) 0 counts) row null (omega (arith, run-count (runs_in b) counts n s.sum))

-- ---- by whether an item can be null
most-items : (t : Bool) → most_rows (items_by t) ≡ MOST_ITEMS
unfolding most_rows
most-items true = refl
most-items false = refl

module _ (k : Kind) (n : ℕ) (b : List ℕ) where
  abbrev Sound : Bool → Type 0
  Sound t = SoundRuns (rules_of k (items_by t)) n b (runs_in b) (counts_length b)

  runs-rules : (t : Bool) → rules_of k (runs_by t) n b ≡ run_length_number (rules_of k (items_by t)) n b
  unfolding rules_of
  runs-rules true = refl
  runs-rules false = refl

  sound : (t : Bool) → rules_of k (runs_by t) n b ≡ 0 → Sound t
  sound t z = runs-sound (rules_of k (items_by t)) n b (sym (runs-rules t) ∙ z)

  module _ {row : ℕ} (l : row < n) where
    -- the row is that of its run's item
    row-shown : (t : Bool) → Sound t → run_at b row < runs_in b
        → get_or (rows_of k (runs_by t) n b) row null ≡ get_or (rows_of k (items_by t) (runs_in b) (items_of b)) (run_at b row) null
    unfolding rows_of row_at places_of counts_in head_of
    row-shown true s j =
        row_of_run (rules_of k (items_by true)) s l (row_at k RunLengthNullable n (head_of RunLengthNullable b) b)
        ∙ sym (nullable-row k (runs_in b) (items_of b) (run_at b row) j)
    row-shown false s j =
        row_of_run (rules_of k (items_by false)) s l (row_at k RunLength n (head_of RunLength b) b)
        ∙ sym (plain_row_lem k (runs_in b) (items_of b) (run_at b row) j)

    -- so a place that shows the item shows the row
    run-shows : (t : Bool) → Sound t → run_at b row < runs_in b → {p : Place} → Told (items_by t) (runs_in b) (items_of b) (run_at b row) p
        → Shows k (runs_by t) n b row (moved_by (8 + counts_length b) p)
    unfolding inner_part
    run-shows t z j {p} told =
        let at = 8 + counts_length b in
        let some = some_runs (rules_of k (items_by t)) z l in
        let s = told k some.inside in
        let o = s.ordered in
        let i = s.inside in
        let r = some.room in
        let d = length-drop at b in
        let m : at + p.to - (at + p.from) ≡ p.to - p.from = omega arith in
        let a : take (at + p.to - (at + p.from)) (drop (at + p.from) b) ≡ take (p.to - p.from) (drop p.from (drop at b))
        = rw (m, drop-drop p.from at b) in
        record {
          ordered = omega arith;
          inside = omega arith;
          few = s.few;
          sound = rw a s.sound;
          slot = s.slot;
          shown = row-shown t z j ∙ rw a s.shown;
        }

-- ---- a block that was opened
module _ (t : Bool) {b : List ℕ} {row : ℕ} (h : Has (runs_by t) b row) where
  has-sound : Sound h.opened.kind h.rows b t
  has-sound = sound h.opened.kind h.rows b t h.opened.sound

  pub has-counted : Counted b row
  has-counted = counted (rules_of h.opened.kind (items_by t)) has-sound h.inside h.opened.short

  has-items : Opened (items_by t) (runs_in b) (items_of b)
  unfolding inner_part
  has-items =
      let o = h.opened in
      let d = length-drop (8 + counts_length b) b in
      record {
        kind = o.kind;
        sound = (some_runs (rules_of o.kind (items_by t)) has-sound h.inside).inside;
        short = omega (arith, o.short);
        few = rw (most-items t) has-sound.many;
      }

  -- the run that was found, and the block of the items
  module _ {r : InRun} (f : Lies b row r) where
    abbrev part : List ℕ
    part = take (length b - r.inner) (drop r.inner b)

    pub items-room : r.inner ≤ length b
    items-room = omega (arith, f.inner, has-counted.room)

    pub items-opened : Opened (items_by t) r.runs part
    items-opened = rw (f.runs, items-read b f.inner) has-items

    -- the place of the item there
    module _ {p : Place} (told : Told (items_by t) r.runs part r.run p) where
      pub moved-fits : (r.inner + p.from < 2 ^ 64) × (r.inner + p.to < 2 ^ 64)
      moved-fits =
          let s = told items-opened.kind items-opened.sound in
          let o = s.ordered in
          let i = s.inside in
          let d = items-opened.short in
          let m = items-room in
          let u = has-counted.short in
          (omega arith, omega arith)

      told-item : Told (items_by t) (runs_in b) (items_of b) (run_at b row) p
      told-item = rw (← f.run, ← f.runs, ← items-read b f.inner) told

      pub run-told : {q : Place} → q ≡ moved_by r.inner p → (n : ℕ) → row < n → Told (runs_by t) n b row q
      run-told e n l k z = rw (e, f.inner) (run-shows k n b l t (sound k n b t z) (found_below f) told-item)
