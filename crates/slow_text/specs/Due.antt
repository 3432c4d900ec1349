-- For the code: what its record of the bytes that are due stands for. Assumes nothing.
use Rattle.std.specs.Prelude.{ℕ, ◌≤◌, cond, [], ◌∷◌, eqb, Option, Some, None}
use Rattle.utf8.specs.Utf8.{from, tail, Due, due, never}
use Rattle.slow_text.specs.declared.Due.{Due as Record}

-- none, one, two or three bytes are due, of which the next lies between two numbers; any other number of them stands for what nothing can mend
abbrev pub due_by : ℕ → ℕ → ℕ → Due
due_by left low high =
    cond (eqb left 0) (due [])
    (cond (eqb left 1) (due (from low high ∷ []))
    (cond (eqb left 2) (due (from low high ∷ tail ∷ []))
    (cond (eqb left 3) (due (from low high ∷ tail ∷ tail ∷ [])) never)))

abbrev pub due_of : Option Record → Due
due_of None = never
due_of (Some d) = due_by d.left d.low d.high

-- no more than a sequence has behind its first byte
abbrev pub IsFew : Option Record → Type 0
IsFew None = Unit {0}
IsFew (Some d) = d.left ≤ 3
