-- How many of some bytes are 0. Assumes nothing.
use Rattle.std.specs.Prelude.{ℕ, ◌+◌, cond, List, [], ◌∷◌, eqb}

unfoldable pub zero_in : ℕ → ℕ
zero_in x = cond (eqb x 0) 1 0

unfoldable pub zeros_in : List ℕ → ℕ
zeros_in [] = 0
zeros_in (x ∷ xs) = zero_in x + zeros_in xs
