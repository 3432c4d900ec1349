-- Reading run by run, said row by row: which run each row lies in, and where reading then stands. Assumes nothing.
use Rattle.std.specs.Prelude.{ℕ, zero, suc, Option, Some, None, ◌+◌, List, [], ◌∷◌, ◌++◌, cond, ◌&&◌, ltb, eqb}
use Rattle.varint.specs.declared.Count.{Count}
use Rattle.varint.specs.Varint.{count_at}
use Rattle.rle.specs.declared.Spot.{Spot}

abbrev pub spot : ℕ → ℕ → ℕ → Spot
spot run at taken = record { run = run; at = at; taken = taken }

-- One row: the run that it lies in, and the place after it. None, where the run's count is missing, bad, 0 or below the rows already taken.
pub data Step : Type 0 where
  none : Step
  row : ℕ → Spot → Step

-- Some rows, in order.
pub data Steps : Type 0 where
  stuck : Steps
  rows : List ℕ → Spot → Steps

-- a run used up is left at once: the next run's count stands behind its own
unfoldable pub leave : Option Count → Spot → Spot
leave None s = s
leave (Some c) s = cond (ltb 0 c.value && eqb c.value s.taken) (spot (s.run + 1) (s.at + c.len) 0) s

-- one row more of a run, whose count has to be above the rows already taken
unfoldable pub one : Option Count → Spot → Step
one None s = none
one (Some c) s = cond (ltb s.taken c.value) (row s.run (leave (Some c) (spot s.run s.at (s.taken + 1)))) none

unfoldable pub before : List ℕ → Steps → Steps
before is stuck = stuck
before is (rows js t) = rows (is ++ js) t

unfoldable pub and_then : Step → (Spot → Steps) → Steps
and_then none rest = stuck
and_then (row i t) rest = before (i ∷ []) (rest t)

module _ (runs : ℕ) (counts : List ℕ) where
  -- the count of the run at a place: missing past the recorded runs, and past the counts
  unfoldable pub here : Spot → Option Count
  here s = cond (ltb s.run runs) (count_at counts s.at) None

  -- the next row
  unfoldable pub settle : Spot → Spot
  settle s = leave (here s) s

  unfoldable pub next : Spot → Step
  next s = one (here (settle s)) (settle s)

  -- the next n rows
  unfoldable pub steps_from : ℕ → Spot → Steps
  steps_from zero s = rows [] s
  steps_from (suc n) s = and_then (next s) (λ t. steps_from n t)
