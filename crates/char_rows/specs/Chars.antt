-- How many bytes of a list are no NULs. Assumes nothing.
use Rattle.std.specs.Prelude.{ℕ, ◌+◌, cond, List, [], ◌∷◌, eqb}

unfoldable pub letters : List ℕ → ℕ
letters [] = 0
letters (b ∷ bs) = cond (eqb b 0) 0 1 + letters bs
