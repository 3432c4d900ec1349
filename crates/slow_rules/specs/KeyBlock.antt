-- For the code: a dictionary's key block that keeps the rules of a run-length block. Assumes nothing.
use Rattle.std.specs.Prelude.{ℕ, List, ◌≡◌}
use Rattle.plain.specs.Plain.{plain_number}
use Rattle.rle.specs.RunLength.{run_length_number}
use Rattle.dict.specs.Dictionary.{i32}

-- of some number of rows
pub record KeyBlock (b : List ℕ) : Type 0 where
  pub rows : ℕ
  pub rules : run_length_number (plain_number i32) rows b ≡ 0
