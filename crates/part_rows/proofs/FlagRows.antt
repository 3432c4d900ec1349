-- The flags of the next rows: 1 with no marks, the bits of a bitmap; and rows that are not coded by runs. Assumes nothing.
use Prim.Native.Nat.{ℕ, zero, suc, ◌+◌, ◌*◌, ◌≤◌, ◌<◌}
use native.Mathlib.Omega.{arith}
use mathlib.Core.Path.{◌≡◌, refl, sym, ap, ◌∙◌}
use mathlib.Core.Bool.{Bool, false, cond}
use mathlib.Core.List.{List, [], ◌∷◌, map}
use lib.Dec.{eqb}
use lib.ListN.{length, replicate}
use Rattle.limits.specs.Limits.{MOST_ITEMS}
use Rattle.encode.specs.declared.Kind.{Kind}
use Rattle.encode.specs.declared.Kind.TheVariants.{Fixed, Char, Blob}
use Rattle.plain.specs.Plain.{places, plain_row}
use Rattle.nullable.specs.Nullable.{bit_at, presence}
use Rattle.nullable.proofs.Bits.{bit-small}
use Rattle.rle.specs.declared.Spot.{Spot}
use Rattle.rle.specs.Stepping.{spot, Steps, stuck, rows}
use Rattle.rle.specs.Pieces.{steps_in, Fine, step_runs}
use Rattle.dict.specs.Dictionary.{entry_row}
use Rattle.source.specs.declared.Marks.TheVariants.{Bare, Bits}
use Rattle.source.specs.declared.Source.{Source}
use Rattle.source.specs.Rows.{shown_by, row_by, flag_by, MarkBytes, StartsBy}
use Rattle.anatomy.specs.declared.Parts.{Parts}
use Rattle.anatomy.specs.Parts.{part_in, marks_in, items_in}
use Rattle.part_rows.specs.PartRows.{steps_by, places_in, flag_in, Serves}
use Rattle.part_rows.proofs.Places.{runs-are, length-steps}

-- a stored item is no null
present : (k : Kind) (m : ℕ) (items : List ℕ) (i : ℕ) → presence (plain_row k m items i) ≡ 1
unfolding plain_row presence
present (Fixed p) m items i = refl
present (Char w) m items i = refl
present (Blob text) m items i = refl

pub bare-flag : (s : Source) (marks items : List ℕ) → s.marks ≡ Bare → (i : ℕ) → flag_by s marks items i ≡ 1
unfolding flag_by row_by shown_by entry_row
bare-flag s marks items e i = rw e (present s.kind s.items items i)

bit-flag : (s : Source) (marks items : List ℕ) → s.marks ≡ Bits → (i : ℕ) → bit_at marks i ≡ flag_by s marks items i
unfolding flag_by row_by shown_by entry_row presence
bit-flag s marks items e i = rw e (go (bit_at marks i) refl (bit-small marks i))
  where
    go : (x : ℕ) → bit_at marks i ≡ x → bit_at marks i < 2 → x ≡ presence (entry_row s.kind s.items items (cond (eqb x 0) 0 (suc i)))
    go zero q h = refl
    go (suc zero) q h = sym (present s.kind s.items items i)
    go (suc (suc x)) q h = absurd (omega arith)

-- what stands at each of some places, if it is the same everywhere
same-all : {A : Type 0} (f : ℕ → A) (x : A) → ((i : ℕ) → f i ≡ x) → (is : List ℕ) (n : ℕ) → length is ≡ n → replicate n x ≡ map f is
same-all f x h [] n e = rw (← e)
same-all {A} f x h (i ∷ is) n e =
    rw (← e)
    (ap (λ (y : A). y ∷ replicate (length is) x) (sym (h i)) ∙ ap (λ (ys : List A). f i ∷ ys) (same-all f x h is (length is) refl))

same-each : (f g : ℕ → ℕ) → ((i : ℕ) → f i ≡ g i) → (is : List ℕ) → map f is ≡ map g is
same-each f g h [] = refl
same-each f g h (i ∷ is) = rw (h i, same-each f g h is)

there : (w : Steps) → Fine w → (t : Spot) × (w ≡ rows (step_runs w) t)
unfolding Fine step_runs
there stuck f = absurd f
there (rows is t) f = (t, refl)

module _ (p : Parts) (from : Spot) (b : List ℕ) (n : ℕ) where
  pub bare-flags : p.source.marks ≡ Bare → Fine (steps_by p from b n) → replicate n 1 ≡ map (flag_in p b) (places_in p from b n)
  bare-flags e f =
      let w = there (steps_by p from b n) f in
      same-all _ 1 (bare-flag p.source (marks_in p b) (items_in p b) e) (places_in p from b n) n (length-steps p from b n w.1)

  -- rows that are not coded by runs
  pub alone : p.source.coded ≡ false → steps_by p from b n ≡ rows (places n from.run) (spot (from.run + n) from.at from.taken)
  unfolding steps_by steps_in
  alone e = ap (λ (x : Bool). steps_in x p.source.runs (part_in p.counts b) n from) e

  pub alone-runs : p.source.coded ≡ false → places_in p from b n ≡ places n from.run
  alone-runs e = runs-are (steps_by p from b n) (alone e)

  pub bits-flags : p.source.marks ≡ Bits → p.source.coded ≡ false → map (bit_at (marks_in p b)) (places n from.run) ≡ map (flag_in p b) (places_in p from b n)
  bits-flags e c = rw (alone-runs c) (same-each _ _ (bit-flag p.source (marks_in p b) (items_in p b) e) (places n from.run))

  module _ (s : Serves p from b n) (c : p.source.coded ≡ false) where
    pub alone-few : from.run + n ≤ MOST_ITEMS
    unfolding StartsBy
    alone-few = rw c at s.starts

    pub bits-room : p.source.marks ≡ Bits → from.run + n ≤ 8 * length (marks_in p b)
    unfolding MarkBytes
    bits-room e =
        let i = s.inside c in
        let m : p.source.items ≤ 8 * length (marks_in p b) = rw e at s.ready.marked in
        omega arith
