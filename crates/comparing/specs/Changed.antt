-- 02 (xi), in words: that a row differs between two lists. Assumes nothing.
use Rattle.std.specs.Prelude.{ℕ, Bool, true, cond, not, List, ltb, length, get_or}
use Rattle.plain.specs.Rows.{Row, null, same}

-- row i: both have it and it isn't the same, or only one has it
unfoldable pub differs_at : List Row → List Row → ℕ → Bool
differs_at xs ys i =
    cond (ltb i (length xs))
    (cond (ltb i (length ys)) (not (same (get_or xs i null) (get_or ys i null))) true)
    (ltb i (length ys))
