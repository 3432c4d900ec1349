-- The first rows of a sound block, as its parts show them: they can be walked, and are those that the block holds. Assumes nothing.
use Rattle.std.specs.Prelude.{Some}
use Prim.Native.Nat.{ℕ, zero, suc, ◌-◌, ◌≤◌, ◌<◌, ◌^◌}
use native.Mathlib.Nat.{zero-add}
use native.Mathlib.Omega.{arith}
use mathlib.Core.Bool.{Bool, true, false}
use mathlib.Core.List.{List, [], ◌∷◌, map}
use mathlib.Core.Path.{◌≡◌, refl, sym, ap, subst, ◌∙◌}
use lib.ListN.{length, take, length-map}
use Rattle.encode.specs.declared.Kind.{Kind}
use Rattle.plain.specs.Rows.{Row}
use Rattle.plain.specs.Plain.{all_of}
use Rattle.rle.specs.declared.Spot.{Spot}
use Rattle.rle.specs.Stepping.{Steps, stuck, rows}
use Rattle.rle.specs.Pieces.{Fine, step_runs}
use Rattle.rle.proofs.Steps.{Below}
use Rattle.source.specs.Rows.{most_by, Starts}
use Rattle.format.specs.declared.Encoding.{Encoding}
use Rattle.format.specs.Blocks.{column_of, column}
use Rattle.format.specs.Opening.{head_of, row_at, most_rows, places_of, rows_of, column_number}
use Rattle.anatomy.specs.declared.Parts.{Parts}
use Rattle.anatomy.specs.Parts.{part_in, marks_in, items_in, parts_of, AllWithin}
use Rattle.anatomy.specs.Tests.{row_good}
use Rattle.part_rows.specs.PartRows.{steps_by, row_in, good_in}
use Rattle.part_rows.proofs.Places.{runs-are}
use Rattle.block.specs.declared.Reader.{Reader}
use Rattle.block.specs.Reading.{reader_at, next_steps}
use Rattle.block.specs.Spots.{start_of}
use Rattle.block.proofs.NextRows.{respot, Served, served}
use Rattle.reading_laws.proofs.RowsLeft.{Stands, start, Later, later, take-good}
use Rattle.in_step.specs.Walking.{first, rows_walked, Walks}

-- ---- functions that agree on some places
module _ {A : Type 0} (f g : ℕ → A) (m : ℕ) (same : (i : ℕ) → i < m → f i ≡ g i) where
  map_below : (is : List ℕ) → Below m is → map f is ≡ map g is
  map_below [] h = refl
  map_below (i ∷ is) h = ap (λ (x : A). x ∷ map f is) (same i h.0) ∙ ap (λ (l : List A). g i ∷ l) (map_below is h.1)

all-below : (f g : ℕ → Bool) (m : ℕ) → ((i : ℕ) → i < m → f i ≡ g i) → (is : List ℕ) → Below m is → all_of f is ≡ all_of g is
unfolding all_of
all-below f g m same [] h = refl
all-below f g m same (i ∷ is) h = rw (same i h.0, all-below f g m same is h.1)

map-take : {A B : Type 0} (f : A → B) (n : ℕ) (l : List A) → map f (take n l) ≡ take n (map f l)
map-take f zero l = refl
map-take f (suc n) [] = refl
map-take {A} {B} f (suc n) (x ∷ l) = ap (λ (m : List B). f x ∷ m) (map-take f n l)

abbrev most : Parts → ℕ
most p = most_by p.source.marks p.source.items p.source.runs

-- ---- the same places, wherever reading then stands
same-places : (coded : Bool) (r : Reader) (w : Steps) {is : List ℕ} {t : Spot} → respot coded r w ≡ rows is t → step_runs w ≡ is
unfolding respot step_runs
same-places coded r stuck q = let z : ◌≡◌ {A = ℕ} 0 1 = cc in absurd (omega arith)
same-places coded r (rows js u) q = cc

not_stuck : (coded : Bool) (r : Reader) (w : Steps) {is : List ℕ} {t : Spot} → respot coded r w ≡ rows is t → Fine w
unfolding respot Fine
not_stuck coded r stuck q = let z : ◌≡◌ {A = ℕ} 0 1 = cc in absurd (omega arith)
not_stuck coded r (rows js u) q = tt

run-below : (w : Steps) → Fine w → {q : ℕ} → ((is : List ℕ) (t : Spot) → w ≡ rows is t → Below q is) → Below q (step_runs w)
unfolding Fine step_runs
run-below stuck f h = absurd f
run-below (rows is t) f h = h is t refl

module _ (kind encoding width n : ℕ) (b : List ℕ) (k : Kind) (e : Encoding) (named : column_of kind encoding width ≡ Some (column k e))
    (sound : column_number (Some (column k e)) n b ≡ 0) (m : ℕ) (few : m ≤ n) (short : m < 2 ^ 64) where
  abbrev r : Reader
  r = reader_at kind encoding width n (length b) (head_of e b)

  abbrev p : Parts
  p = parts_of k e n (length b) (head_of e b)

  abbrev is : List ℕ
  is = places_of e n (head_of e b) b

  stands : Stands k e n b r is
  stands = start k n b kind encoding width e named sound

  there : Later k e n b r is m
  there = later stands m (omega (arith, stands.count))

  serve : Served k e r b m p
  serve = served k r b m refl (omega arith) e stands.right

  from_first : (coded : Bool) → start_of coded r ≡ first
  unfolding start_of
  from_first true = refl
  from_first false = refl

  -- the next m rows from the parts
  abbrev steps : Steps
  steps = steps_by p (start_of p.source.coded r) b m

  told : respot p.source.coded r steps ≡ rows (take m is) there.mid
  told = sym serve.steps ∙ there.first

  places-are : step_runs steps ≡ take m is
  places-are = same-places p.source.coded r steps told

  fine : Fine steps
  fine = not_stuck p.source.coded r steps told

  below : Below (most p) (take m is)
  below = subst (Below (most p)) places-are (run-below steps fine serve.below)

  good : all_of (good_in p b) (take m is) ≡ true
  good =
      sym (all-below (row_good k e n (head_of e b) b) (good_in p b) (most p) serve.lies.good (take m is) below)
      ∙ take-good (row_good k e n (head_of e b) b) m is stands.good

  -- the same from the first spot
  at_first : steps ≡ steps_by p first b m
  at_first = ap (λ (u : Spot). steps_by p u b m) (from_first p.source.coded)

  pub block-walks : Walks p.source (part_in p.counts b) (marks_in p b) (items_in p b) m
  unfolding steps_by
  block-walks = record {
    ready = serve.lies.ready;
    starts = rw (from_first p.source.coded) at serve.starts;
    writes = record { fine = subst Fine at_first fine; right = rw (ap step_runs (sym at_first) ∙ places-are) good; rows = omega arith };
    inside = λ z. rw (from_first p.source.coded, zero-add) at (serve.inside z);
    short = short;
  }

  pub block-rows : rows_walked p.source (part_in p.counts b) (marks_in p b) (items_in p b) m ≡ take m (rows_of k e n b)
  unfolding steps_by rows_of
  block-rows =
      ap (map (row_in p b)) (ap step_runs (sym at_first) ∙ places-are)
      ∙ sym (map_below (row_at k e n (head_of e b) b) (row_in p b) (most p) serve.lies.row (take m is) below)
      ∙ map-take (row_at k e n (head_of e b) b) m is

  pub block_within : AllWithin p (length b)
  block_within = serve.lies.within

  pub block-kind : p.source.kind ≡ k
  block-kind = serve.lies.kind

  pub block-long : length (rows_of k e n b) ≡ n
  unfolding rows_of
  block-long = length-map is (row_at k e n (head_of e b) b) ∙ omega (arith, stands.count)

  pub block-few : n ≤ most_rows e
  block-few = stands.right.numbers.rows
