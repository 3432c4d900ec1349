-- 02 (xi): whether each row of one list differs from the row of another at the same place. Null differs from every value, and a row that only one list has
-- counts as differing. Assumes nothing.
use Rattle.std.specs.Prelude.{Bool, true, not, List, [], ◌∷◌}
use Rattle.plain.specs.Rows.{Row, same}

unfoldable pub differences : List Row → List Row → List Bool
differences [] [] = []
differences [] (y ∷ ys) = true ∷ differences [] ys
differences (x ∷ xs) [] = true ∷ differences xs []
differences (x ∷ xs) (y ∷ ys) = not (same x y) ∷ differences xs ys
