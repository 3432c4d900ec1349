-- The values of rows of a fixed kind: of one item, and the step of the loop over runs. Assumes nothing.
use Prim.Native.Nat.{ℕ, zero, suc, ◌+◌, ◌-◌, ◌*◌, ◌≤◌, ◌<◌}
use native.Mathlib.Omega.{arith}
use mathlib.Core.List.{List}
use mathlib.Core.Path.{◌≡◌, refl, sym, ap, ◌∙◌}
use lib.IntN.{ℤ, pos}
use lib.ListN.{length, replicate}
use lib.Seq.{sets}
use Rattle.std.specs.Prelude.{Some}
use Rattle.encode.specs.Kinds.{width_of}
use Rattle.encode.specs.declared.Kind.{Kind}
use Rattle.encode.specs.declared.Kind.TheVariants.{Fixed}
use Rattle.encode.specs.declared.Primitive.{Primitive}
use Rattle.plain.specs.Rows.{int_in}
use Rattle.plain.specs.Plain.{least_bytes, plain_row, fixed_at}
use Rattle.plain.proofs.Items.{item_room}
use Rattle.rle.specs.declared.Spot.{Spot}
use Rattle.dict.specs.Dictionary.{entry_row}
use Rattle.rle.specs.Pieces.{run_piece}
use Rattle.source.specs.declared.Source.{Source}
use Rattle.source.specs.Rows.{shown_by, int_of, int_by, piece_of}
use Rattle.source.proofs.AtPlace.{int-shown}
use Rattle.source.proofs.Filled.{Filled, filled_on}

-- ---- one item, counted from 1 on
module _ (p : Primitive) (n : ℕ) (items : List ℕ) (slot : ℕ) where
  pub int-none : slot ≡ 0 → pos 0 ≡ int_of (Fixed p) n items slot
  unfolding int_of int_in entry_row
  int-none z = rw z

  module _ (z : slot ≡ 0 → ⊥) where
    pub int-some : {v r : ℤ} → v ≡ r → r ≡ fixed_at p items (slot - 1) → v ≡ int_of (Fixed p) n items slot
    unfolding int_of int_in entry_row plain_row
    int-some {v} b e = go slot z (b ∙ e)
      where
        go : (k : ℕ) → (k ≡ 0 → ⊥) → v ≡ fixed_at p items (k - 1) → v ≡ int_of (Fixed p) n items k
        go zero z e = absurd (z refl)
        go (suc i) z e = let m : suc i - 1 ≡ i = omega arith in rw m at e

    pub item-there : slot ≤ n → least_bytes (Fixed p) n ≤ length items → (slot - 1) * width_of p + width_of p ≤ length items
    unfolding least_bytes
    item-there h l = item_room (slot - 1) n (width_of p) (length items) (omega arith) l

-- ---- the step: the rows of the run have the value of its item
module _ (s : Source) (marks items counts : List ℕ) (n : ℕ) (from : Spot) (values₀ : List ℤ) where
  abbrev pub Values : Spot → ℕ → ℕ → List ℤ → Type 0
  Values at left to values = Filled ℤ (int_by s marks items) s.coded s.runs counts n from values₀ at left to values

  pub values-on :
      {p : Primitive} → s.kind ≡ Fixed p → {at : Spot} {left to : ℕ} {values : List ℤ} → Values at left to values → 0 < left
      → {k : ℕ} {t : Spot} → piece_of s counts at left ≡ Some (run_piece k t) → {slot : ℕ} → (0 < k → slot ≡ shown_by s.marks marks at.run)
      → {x v : ℤ} → x ≡ v → v ≡ int_of (Fixed p) s.items items slot
      → {values' : List ℤ} → values' ≡ sets values to (replicate k x) → Values t (left - k) (to + k) values'
  values-on kind {at} w l {k} b {slot} shows {x} i v q = filled_on w l refl b same q
    where
      same : 0 < k → x ≡ int_by s marks items at.run
      same h = int-shown s marks items at.run (shows h) (i ∙ v ∙ ap (λ (j : Kind). int_of j s.items items slot) (sym kind))
