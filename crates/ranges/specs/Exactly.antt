-- 02 (xi), in words: that one of some ranges has a place, and that no two of them are neighbours. Assumes nothing.
use Rattle.std.specs.Prelude.{ℕ, ◌+◌, ◌≤◌, List, [], ◌∷◌, ◌⊎◌}
use Rattle.ranges.specs.Ranges.{Range}

-- one of the ranges has the place
unfoldable pub Has : List Range → ℕ → Type 0
Has [] i = ⊥
Has (r ∷ rs) i = ((r.first ≤ i) × (i ≤ r.last)) ⊎ Has rs i

-- ranges from the place k on, ascending: each has a place at least, and between its last place and the next one's first lies another
unfoldable pub ApartFrom : ℕ → List Range → Type 0
ApartFrom k [] = Unit
ApartFrom k (r ∷ rs) = (k ≤ r.first) × (r.first ≤ r.last) × ApartFrom (r.last + 2) rs
