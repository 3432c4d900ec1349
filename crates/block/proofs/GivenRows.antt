-- What the rows written into the areas answer for a read. Assumes nothing.
use native.Mathlib.Omega.{arith}
use Prim.Native.Nat.{ℕ, ◌<◌}
use mathlib.Core.Path.{◌≡◌, refl, sym, ap, ◌∙◌}
use mathlib.Core.Bool.{Bool, true, false, cond}
use mathlib.Core.List.{List, [], ◌∷◌, map}
use lib.IntN.{ℤ}
use lib.ListN.{length, take, length-map}
use Rattle.std.specs.Prelude.{Result, Ok, Err}
use Rattle.limits.specs.Refusals.{ROOM, DISAGREE}
use Rattle.encode.specs.declared.Kind.{Kind}
use Rattle.zeros.specs.Zeros.{zeros_in}
use Rattle.plain.specs.Rows.{Row}
use Rattle.plain.specs.Plain.{all_of}
use Rattle.rle.specs.declared.Spot.{Spot}
use Rattle.rle.specs.Stepping.{Steps, stuck, rows}
use Rattle.rle.proofs.Steps.{Below}
use Rattle.rle.proofs.Folds.{map_below}
use Rattle.format.specs.declared.Encoding.{Encoding}
use Rattle.format.specs.Opening.{row_at}
use Rattle.anatomy.specs.declared.Parts.{Parts}
use Rattle.anatomy.specs.Tests.{row_good}
use Rattle.part_rows.specs.PartRows.{steps_by, row_in, good_in}
use Rattle.part_rows.proofs.Places.{length-steps}
use Rattle.fill.specs.declared.Filled.{Filled}
use Rattle.fill.specs.Areas.{Areas, short, filled_in, given_bytes}
use Rattle.fill.specs.Filling.{Filling, filled, refused_filling, next_by, write_rows, filling_by, filling}
use Rattle.block.specs.declared.Reader.{Reader}
use Rattle.block.specs.declared.Given.{Given}
use Rattle.block.specs.Reading.{next_steps, moved, counted, nulls_in, Batch, refused_batch, give, batch_of}
use Rattle.block.specs.Spots.{start_of, spot_by, moved_by}
use Rattle.block.proofs.NextRows.{respot, Served}
use Rattle.block.proofs.GivenNulls.{flags-back}

-- ---- an answer with its four areas
abbrev pub BatchTold : Given → List ℤ → List ℕ → List ℕ → List ℕ → Batch → Type 0
BatchTold g vs fs es bs y =
    (g ≡ y.answer) × ((vs ≡ y.areas.values) × ((fs ≡ y.areas.flags) × ((es ≡ y.areas.ends) × (bs ≡ y.areas.bytes))))

pub told :
    {x y : Batch} (g : Given) → g ≡ x.answer → x ≡ y
    → BatchTold g x.areas.values x.areas.flags x.areas.ends x.areas.bytes y
told g h e =
    let a : (z : Batch) → Areas = λ z. z.areas in (
      h ∙ ap (λ (z : Batch). z.answer) e,
      (ap (λ z. (a z).values) e, (ap (λ z. (a z).flags) e, (ap (λ z. (a z).ends) e, ap (λ z. (a z).bytes) e))),
    )

-- ---- what is written is handed on
abbrev pub handed-rows : Reader → Bool → ℕ → Areas → Result Filled ℕ → Batch
handed-rows r coded n a (Ok x) = record {
  answer = record { number = 0; rows = n; bytes = x.bytes; reader = counted (moved_by coded r n x.next) (zeros_in (take n a.flags)) };
  areas = a;
}
handed-rows r coded n a (Err e) = refused_batch e r a

abbrev pub handed-on : Reader → Bool → ℕ → Filling → Batch
handed-on r coded n f = handed-rows r coded n f.areas f.answer

moved_on : (r : Reader) (from : Spot) (coded : Bool) (n : ℕ) (t : Spot) → moved r n (spot_by coded r t) ≡ moved_by coded r n (next_by coded from t)
unfolding moved_by spot_by next_by
moved_on r from true n t = refl
moved_on r from false n t = refl

-- rows that are written, as the code answers them and as a read does
abbrev filled-rows : Kind → List Row → Spot → Areas → Filling
filled-rows k rs t a = record { answer = Ok (filled (given_bytes k rs) t); areas = filled_in k rs a }

abbrev given-rows : Kind → Reader → List Row → Spot → Areas → Batch
given-rows k r rs t a = record {
  answer = record { number = 0; rows = length rs; bytes = given_bytes k rs; reader = counted (moved r (length rs) t) (nulls_in rs) };
  areas = filled_in k rs a;
}

give-handed :
    (k : Kind) (r : Reader) (from : Spot) (coded : Bool) (n : ℕ) (rs : List Row) (t : Spot) (a : Areas) → length rs ≡ n
    → give k r rs (spot_by coded r t) a ≡ handed-on r coded n (write_rows k rs (next_by coded from t) a)
unfolding give write_rows nulls_in
give-handed k r from coded n rs t a long = go (short k rs a)
  where
    fs : List ℕ
    fs = (filled_in k rs a).flags

    -- so many rows and nulls, and a reader behind the rows
    answer : ℕ → Reader → ℕ → Batch
    answer m y nulls = record {
      answer = record { number = 0; rows = m; bytes = given_bytes k rs; reader = counted y nulls };
      areas = filled_in k rs a;
    }

    go : (x : Bool)
        → cond x (refused_batch ROOM r a) (given-rows k r rs (spot_by coded r t) a)
        ≡ handed-on r coded n (cond x (refused_filling ROOM a) (filled-rows k rs (next_by coded from t) a))
    go true = refl
    go false =
        ap (λ (xs : List ℕ). answer (length rs) (moved r (length rs) (spot_by coded r t)) (zeros_in xs)) (sym (flags-back k rs a))
        ∙ ap (λ (m : ℕ). answer m (moved r m (spot_by coded r t)) (zeros_in (take m fs))) long
        ∙ ap (λ (y : Reader). answer n y (zeros_in (take n fs))) (moved_on r from coded n t)

-- ---- the rows of the parts are those of the definition
module _ (f g : ℕ → Bool) (m : ℕ) (same : (i : ℕ) → i < m → f i ≡ g i) where
  all_same : (is : List ℕ) → Below m is → all_of f is ≡ all_of g is
  unfolding all_of
  all_same [] h = refl
  all_same (i ∷ is) h = rw (same i h.0, all_same is h.1)

module _ {k : Kind} {e : Encoding} {r : Reader} {b : List ℕ} {n : ℕ} {p : Parts} (a : Areas) (s : Served k e r b n p) where
  abbrev coded : Bool
  coded = p.source.coded

  abbrev from : Spot
  from = start_of p.source.coded r

  good-rows : (is : List ℕ) (t : Spot) → steps_by p from b n ≡ rows is t
      → batch_of k e r b a (rows is (spot_by coded r t)) ≡ handed-on r coded n (filling_by p from b a (rows is t))
  unfolding batch_of filling_by
  good-rows is t q =
      let l = s.lies in
      let h = s.below is t q in
      rw (
        all_same (row_good k e r.rows r.head b) (good_in p b) _ l.good is h,
        map_below (row_at k e r.rows r.head b) (row_in p b) _ is l.row h,
        ← l.kind,
      )
      (go (all_of (good_in p b) is))
    where
      rs : List Row
      rs = map (row_in p b) is

      go : (x : Bool)
          → cond x (give p.source.kind r rs (spot_by coded r t) a) (refused_batch DISAGREE r a)
          ≡ handed-on r coded n (cond x (write_rows p.source.kind rs (next_by coded from t) a) (refused_filling DISAGREE a))
      go true = give-handed p.source.kind r from coded n rs t a (length-map is (row_in p b) ∙ length-steps p from b n q)
      go false = refl

  pub batch-same : batch_of k e r b a (next_steps e r b n) ≡ handed-on r coded n (filling p from b n a)
  unfolding respot
  batch-same = rw s.steps (go (steps_by p from b n) refl)
    where
      go : (w : Steps) → steps_by p from b n ≡ w → batch_of k e r b a (respot coded r w) ≡ handed-on r coded n (filling_by p from b a w)
      go stuck q = unfold batch_of filling_by in refl
      go (rows is t) q = good-rows is t q

-- ---- what is refused writes nothing, and no refusal is 0
writing-kept : (k : Kind) (rs : List Row) (t : Spot) (a : Areas) {e : ℕ} → (write_rows k rs t a).answer ≡ Err e
    → ((write_rows k rs t a).areas ≡ a) × (e ≡ 0 → ⊥)
unfolding write_rows
writing-kept k rs t a {e = e} = go (short k rs a)
  where
    go : (x : Bool) → (cond x (refused_filling ROOM a) (filled-rows k rs t a)).answer ≡ Err e
        → ((cond x (refused_filling ROOM a) (filled-rows k rs t a)).areas ≡ a) × (e ≡ 0 → ⊥)
    go true h = let q : ROOM ≡ e = cc in (refl, λ z. omega arith)
    go false h = let z : ◌≡◌ {A = ℕ} 0 1 = cc in absurd (omega arith)

pub filling-kept : (p : Parts) (from : Spot) (b : List ℕ) (a : Areas) (w : Steps) {e : ℕ} → (filling_by p from b a w).answer ≡ Err e
    → ((filling_by p from b a w).areas ≡ a) × (e ≡ 0 → ⊥)
unfolding filling_by
filling-kept p from b a stuck {e = e} h = let q : DISAGREE ≡ e = cc in (refl, λ z. omega arith)
filling-kept p from b a (rows is t) {e = e} h = go (all_of (good_in p b) is) h
  where
    f : Filling
    f = write_rows p.source.kind (map (row_in p b) is) (next_by p.source.coded from t) a

    go : (x : Bool) → (cond x f (refused_filling DISAGREE a)).answer ≡ Err e → ((cond x f (refused_filling DISAGREE a)).areas ≡ a) × (e ≡ 0 → ⊥)
    go true q = writing-kept p.source.kind (map (row_in p b) is) (next_by p.source.coded from t) a q
    go false h = let q : DISAGREE ≡ e = cc in (refl, λ z. omega arith)
