-- Rules in order of testing: the first that is broken gives the number, and 0 means that none is. Assumes nothing.
use Rattle.std.specs.Prelude.{ℕ, zero, suc, Bool, cond, List, [], ◌∷◌}

infix 68 ◌if◌
-- a rule's number if it is broken
abbrev pub ◌if◌ : ℕ → Bool → ℕ
e if broken = cond broken e 0

unfoldable pub first_of : List ℕ → ℕ
first_of [] = 0
first_of (zero ∷ rules) = first_of rules
first_of (suc e ∷ rules) = suc e
