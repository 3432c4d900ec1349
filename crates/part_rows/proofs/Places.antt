-- The places of the next rows: as many as asked for, and good if the second pass may write them. Assumes nothing.
use Prim.Native.Nat.{ℕ, ◌≤◌}
use mathlib.Core.Path.{◌≡◌}
use mathlib.Core.Bool.{true}
use mathlib.Core.List.{List}
use lib.ListN.{length}
use Rattle.plain.specs.Plain.{all_of}
use Rattle.rle.specs.declared.Spot.{Spot}
use Rattle.rle.specs.Stepping.{Steps, rows}
use Rattle.rle.specs.Pieces.{Fine, step_runs}
use Rattle.rle.proofs.Steps.{in-length}
use Rattle.source.specs.Rows.{Writes}
use Rattle.anatomy.specs.declared.Parts.{Parts}
use Rattle.part_rows.specs.PartRows.{steps_by, good_in, MayWrite}

-- the places of steps that are known
pub runs-are : (w : Steps) {is : List ℕ} {t : Spot} → w ≡ rows is t → step_runs w ≡ is
unfolding step_runs
runs-are w e = rw e

module _ (p : Parts) (from : Spot) (b : List ℕ) (n : ℕ) where
  -- the places of the next rows, all of which are good
  pub record Read (is : List ℕ) (next : Spot) : Type 0 where
    pub steps : steps_by p from b n ≡ rows is next
    pub right : all_of (good_in p b) is ≡ true

  pub length-steps : {is : List ℕ} {t : Spot} → steps_by p from b n ≡ rows is t → length is ≡ n
  unfolding steps_by
  length-steps {is} {t} e = in-length p.source.coded p.source.runs _ n _ e

  -- the second pass may write
  pub writes :
      {is : List ℕ} {t : Spot} (room : ℕ) → steps_by p from b n ≡ rows is t → all_of (good_in p b) is ≡ true → n ≤ room
      → Writes (good_in p b) (steps_by p from b n) n room
  unfolding Fine step_runs
  writes {is} {t} room e g h = rw e (record { fine = tt; right = g; rows = h })

module _ {p : Parts} {from : Spot} {b : List ℕ} {n : ℕ} {is : List ℕ} {t : Spot} (read : Read p from b n is t) where
  pub may_write : (room : ℕ) → n ≤ room → MayWrite p from b n room
  may_write room h = writes p from b n room read.steps read.right h
