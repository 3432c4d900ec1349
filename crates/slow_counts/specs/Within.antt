-- For the code: a row of the runs. Assumes nothing.
use Rattle.std.specs.Prelude.{ℕ, ◌<◌, List, ◌≡◌, Ok}
use Rattle.rle.specs.RunLength.{walked}

-- the counts are good, and come to more rows
pub record Within (runs : ℕ) (counts : List ℕ) (row : ℕ) : Type 0 where
  pub rows : ℕ
  pub walks : walked runs counts ≡ Ok rows
  pub inside : row < rows
