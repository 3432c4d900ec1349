-- What the program `column` answers: it lists, or refuses. Assumes nothing.
use Rattle.std.specs.Prelude.{Option, Some, None, ℕ, cond, List, ltb, length}
use Rattle.limits.specs.Limits.{MOST_INPUT}
use Rattle.limits.specs.Refusals.{LIMIT, NO_COLUMN}
use Rattle.sheet.specs.Sheet.{column_found}
use Rattle.column_by.specs.Named.{column_named}

-- the sheet's own number, or 20 where no column is named
unfoldable pub named_number : List ℕ → Option ℕ → ℕ
named_number f (Some j) = (column_found f j).number
named_number f None = NO_COLUMN

-- 0, or the number that is printed behind `refused`: a file that is too long comes before an argument that names no column
unfoldable pub column_asked : List ℕ → List ℕ → ℕ
column_asked f text = cond (ltb MOST_INPUT (length f)) LIMIT (named_number f (column_named text))
