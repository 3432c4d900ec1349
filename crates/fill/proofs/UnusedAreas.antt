-- The areas that a kind doesn't use are neither looked at nor changed. Assumes nothing.
use Prim.Native.Nat.{ℕ}
use mathlib.Core.Path.{◌≡◌, refl, sym, ap, ◌∙◌}
use mathlib.Core.Bool.{Bool, true, false, cond}
use mathlib.Core.List.{List, [], ◌∷◌, map}
use types.Run.{OneOf, miss}
use denote.Enum.Declared.{tag_of}
use lib.IntN.{ℤ}
use Rattle.std.specs.Prelude.{Result}
use Rattle.limits.specs.Refusals.{ROOM, DISAGREE}
use Rattle.encode.specs.contracts.Kind.{the_type}
use Rattle.encode.specs.declared.Kind.{Kind}
use Rattle.encode.specs.declared.Kind.TheVariants.{Fixed, Char, Blob}
use Rattle.plain.specs.Rows.{Row}
use Rattle.plain.specs.Plain.{all_of}
use Rattle.rle.specs.declared.Spot.{Spot}
use Rattle.rle.specs.Stepping.{Steps, stuck, rows}
use Rattle.anatomy.specs.declared.Parts.{Parts}
use Rattle.part_rows.specs.PartRows.{steps_by, row_in, good_in}
use Rattle.fill.specs.declared.Filled.{Filled}
use Rattle.fill.specs.Areas.{Areas, areas, is_bytes, short, filled_in}
use Rattle.fill.specs.Filling.{Filling, refused_filling, next_by, write_rows, filling_by, filling, fixed_filling, text_filling}
use Rattle.fill.proofs.FilledAreas.{written, FixedTold, TextTold}

-- ---- the same answer, with other areas beside those of the kind
abbrev with_texts : Filling → List ℕ → List ℕ → Filling
with_texts x es bs = record { answer = x.answer; areas = areas x.areas.values x.areas.flags es bs }

abbrev with_values : Filling → List ℤ → Filling
with_values x vs = record { answer = x.answer; areas = areas vs x.areas.flags x.areas.ends x.areas.bytes }

either-texts :
    (x : Bool) (u v u' v' : Filling) (es bs : List ℕ) → u ≡ with_texts u' es bs → v ≡ with_texts v' es bs
    → cond x u v ≡ with_texts (cond x u' v') es bs
either-texts true u v u' v' es bs p q = p
either-texts false u v u' v' es bs p q = q

either-values :
    (x : Bool) (u v u' v' : Filling) (vs : List ℤ) → u ≡ with_values u' vs → v ≡ with_values v' vs
    → cond x u v ≡ with_values (cond x u' v') vs
either-values true u v u' v' vs p q = p
either-values false u v u' v' vs p q = q

module _ (k : Kind) (rs : List Row) (t : Spot) (vs : List ℤ) (fs es bs : List ℕ) where
  short-fixed : is_bytes k ≡ false → short k rs (areas vs fs es bs) ≡ short k rs (areas vs fs [] [])
  unfolding short
  short-fixed h = rw h

  written-fixed : is_bytes k ≡ false → written k rs t (areas vs fs es bs) ≡ with_texts (written k rs t (areas vs fs [] [])) es bs
  unfolding filled_in
  written-fixed h = rw h

  write-fixed : is_bytes k ≡ false → write_rows k rs t (areas vs fs es bs) ≡ with_texts (write_rows k rs t (areas vs fs [] [])) es bs
  unfolding write_rows
  write-fixed h =
      let u = refused_filling ROOM (areas vs fs es bs) in
      let v = written k rs t (areas vs fs es bs) in
      ap (λ (x : Bool). cond x u v) (short-fixed h)
      ∙ either-texts (short k rs (areas vs fs [] [])) u v (refused_filling ROOM (areas vs fs [] [])) (written k rs t (areas vs fs [] [])) es bs refl
      (written-fixed h)

  short-texts : is_bytes k ≡ true → short k rs (areas vs fs es bs) ≡ short k rs (areas [] fs es bs)
  unfolding short
  short-texts h = rw h

  written-texts : is_bytes k ≡ true → written k rs t (areas vs fs es bs) ≡ with_values (written k rs t (areas [] fs es bs)) vs
  unfolding filled_in
  written-texts h = rw h

  write-texts : is_bytes k ≡ true → write_rows k rs t (areas vs fs es bs) ≡ with_values (write_rows k rs t (areas [] fs es bs)) vs
  unfolding write_rows
  write-texts h =
      let u = refused_filling ROOM (areas vs fs es bs) in
      let v = written k rs t (areas vs fs es bs) in
      ap (λ (x : Bool). cond x u v) (short-texts h)
      ∙ either-values (short k rs (areas [] fs es bs)) u v (refused_filling ROOM (areas [] fs es bs)) (written k rs t (areas [] fs es bs)) vs refl
      (written-texts h)

module _ (p : Parts) (from : Spot) (b : List ℕ) (vs : List ℤ) (fs es bs : List ℕ) where
  fill-fixed :
      is_bytes p.source.kind ≡ false → (w : Steps)
      → filling_by p from b (areas vs fs es bs) w ≡ with_texts (filling_by p from b (areas vs fs [] []) w) es bs
  unfolding filling_by
  fill-fixed h stuck = refl
  fill-fixed h (rows is t) =
      let rs = map (row_in p b) is in
      let u = next_by p.source.coded from t in
      either-texts
      (all_of (good_in p b) is)
      (write_rows p.source.kind rs u (areas vs fs es bs))
      (refused_filling DISAGREE (areas vs fs es bs))
      (write_rows p.source.kind rs u (areas vs fs [] []))
      (refused_filling DISAGREE (areas vs fs [] []))
      es
      bs
      (write-fixed p.source.kind rs u vs fs es bs h)
      refl

  fill-texts :
      is_bytes p.source.kind ≡ true → (w : Steps)
      → filling_by p from b (areas vs fs es bs) w ≡ with_values (filling_by p from b (areas [] fs es bs) w) vs
  unfolding filling_by
  fill-texts h stuck = refl
  fill-texts h (rows is t) =
      let rs = map (row_in p b) is in
      let u = next_by p.source.coded from t in
      either-values
      (all_of (good_in p b) is)
      (write_rows p.source.kind rs u (areas vs fs es bs))
      (refused_filling DISAGREE (areas vs fs es bs))
      (write_rows p.source.kind rs u (areas [] fs es bs))
      (refused_filling DISAGREE (areas [] fs es bs))
      vs
      (write-texts p.source.kind rs u vs fs es bs h)
      refl

-- ---- an answer with all four areas
abbrev pub AllTold : Result Filled ℕ → List ℤ → List ℕ → List ℕ → List ℕ → Filling → Type 0
AllTold g vs fs es bs y =
    (g ≡ y.answer) × ((vs ≡ y.areas.values) × ((fs ≡ y.areas.flags) × ((es ≡ y.areas.ends) × (bs ≡ y.areas.bytes))))

all_told : {x y : Filling} → x ≡ y → AllTold x.answer x.areas.values x.areas.flags x.areas.ends x.areas.bytes y
all_told e =
    let a : (z : Filling) → Areas = λ z. z.areas in (
      ap (λ (z : Filling). z.answer) e,
      (ap (λ z. (a z).values) e, (ap (λ z. (a z).flags) e, (ap (λ z. (a z).ends) e, ap (λ z. (a z).bytes) e))),
    )

module _ (p : Parts) (from : Spot) (b : List ℕ) (n : ℕ) (vs : List ℤ) (fs es bs : List ℕ) where
  pub fixed-all :
      is_bytes p.source.kind ≡ false → {g : Result Filled ℕ} {vs' : List ℤ} {fs' : List ℕ} → FixedTold g vs' fs' (fixed_filling p from b n vs fs)
      → AllTold g vs' fs' es bs (filling p from b n (areas vs fs es bs))
  fixed-all i h =
      let x = all_told (sym (fill-fixed p from b vs fs es bs i (steps_by p from b n))) in
      (h.0 ∙ x.0, (h.1.0 ∙ x.1.0, (h.1.1 ∙ x.1.1.0, (x.1.1.1.0, x.1.1.1.1))))

  pub texts-all :
      is_bytes p.source.kind ≡ true → {g : Result Filled ℕ} {fs' es' bs' : List ℕ} → TextTold g fs' es' bs' (text_filling p from b n fs es bs)
      → AllTold g vs fs' es' bs' (filling p from b n (areas vs fs es bs))
  texts-all i h =
      let x = all_told (sym (fill-texts p from b vs fs es bs i (steps_by p from b n))) in
      (h.0 ∙ x.0, (x.1.0, (h.1.0 ∙ x.1.1.0, (h.1.1.0 ∙ x.1.1.1.0, h.1.1.1 ∙ x.1.1.1.1))))

-- the kinds that the last arm names
pub as_bytes : (k : Kind) → OneOf (1 ∷ 2 ∷ []) (tag_of the_type k) → is_bytes k ≡ true
unfolding is_bytes
as_bytes (Fixed q) h = absurd (miss (1 ∷ 2 ∷ []) 0 tt h)
as_bytes (Char w) h = refl
as_bytes (Blob text) h = refl
