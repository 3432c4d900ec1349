-- What a look at the next rows told: where they lie, that they are good, and how many bytes they have. Assumes nothing.
use Prim.Native.Nat.{ℕ}
use native.Mathlib.Omega.{arith}
use mathlib.Core.Path.{◌≡◌, refl, ap, ◌∙◌}
use mathlib.Core.Bool.{Bool, true, false, cond}
use mathlib.Core.List.{List}
use Rattle.std.specs.Prelude.{Some, None}
use Rattle.limits.specs.Refusals.{DISAGREE}
use Rattle.plain.specs.Plain.{all_of}
use Rattle.rle.specs.declared.Spot.{Spot}
use Rattle.rle.specs.Stepping.{Steps, stuck, rows}
use Rattle.source.specs.declared.Weighed.{Weighed}
use Rattle.source.specs.Rows.{sum_of, capped, weighed, weighed_by}
use Rattle.anatomy.specs.declared.Parts.{Parts}
use Rattle.part_rows.specs.PartRows.{steps_by, good_in, size_in}
use Rattle.part_rows.proofs.Places.{Read}
use Rattle.fill.specs.Areas.{Areas}
use Rattle.fill.specs.Filling.{refused_filling, filling_by, filling}

module _ (p : Parts) (from : Spot) (b : List ℕ) (n : ℕ) where
  abbrev good : ℕ → Bool
  good = good_in p b

  abbrev size : ℕ → ℕ
  size = size_in p b

  pub record Looked (total : ℕ) (next : Spot) : Type 0 where
    pub is : List ℕ
    pub read : Read p from b n is next
    pub weight : total ≡ capped (sum_of (size_in p b) is)

  pub looked-stuck : (a : Areas) → None ≡ weighed_by good size (steps_by p from b n) → refused_filling DISAGREE a ≡ filling p from b n a
  unfolding weighed_by filling_by
  looked-stuck a h = go (steps_by p from b n) h
    where
      go : (w : Steps) → None ≡ weighed_by good size w → refused_filling DISAGREE a ≡ filling_by p from b a w
      go stuck q = refl
      go (rows is t) q = test (all_of good is) refl q
        where
          test : (x : Bool) → all_of good is ≡ x → None ≡ cond x (Some (weighed (capped (sum_of size is)) t)) None
              → refused_filling DISAGREE a ≡ filling_by p from b a (rows is t)
          test true e z = let y : ◌≡◌ {A = ℕ} 0 1 = cc in absurd (omega arith)
          test false e z = rw e

  pub looked-total : {x : Weighed} → Some x ≡ weighed_by good size (steps_by p from b n) → Looked x.bytes x.next
  unfolding weighed_by
  looked-total {x} h = go (steps_by p from b n) refl h
    where
      go : (w : Steps) → steps_by p from b n ≡ w → Some x ≡ weighed_by good size w → Looked x.bytes x.next
      go stuck e q = let y : ◌≡◌ {A = ℕ} 0 1 = cc in absurd (omega arith)
      go (rows is t) e q = test (all_of good is) refl q
        where
          test : (y : Bool) → all_of good is ≡ y → Some x ≡ cond y (Some (weighed (capped (sum_of size is)) t)) None → Looked x.bytes x.next
          test false g z = let y : ◌≡◌ {A = ℕ} 0 1 = cc in absurd (omega arith)
          test true g z =
              let q : x ≡ weighed (capped (sum_of size is)) t = cc in
              let u : x.next ≡ t = ap (λ (y : Weighed). y.next) q in
              record { is = is; read = record { steps = e ∙ rw u; right = g }; weight = ap (λ (y : Weighed). y.bytes) q }
