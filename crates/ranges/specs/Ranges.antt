-- 02 (xi): maximal ranges of places that are marked, in order. A range is its first place and its last, both inside, counted from 0. Assumes nothing.
use Rattle.std.specs.Prelude.{ℕ, suc, ◌-◌, Bool, true, false, List, [], ◌∷◌, Option, Some, None}

pub record Range : Type 0 where
  pub first : ℕ
  pub last : ℕ

abbrev pub range : ℕ → ℕ → Range
range first last = record { first = first; last = last }

-- the ranges of the places from i on; before them no range is open, or one that began at a place and has not ended
unfoldable pub ranges_from : ℕ → Option ℕ → List Bool → List Range
ranges_from i None [] = []
ranges_from i None (true ∷ bs) = ranges_from (suc i) (Some i) bs
ranges_from i None (false ∷ bs) = ranges_from (suc i) None bs
ranges_from i (Some f) [] = range f (i - 1) ∷ []
ranges_from i (Some f) (true ∷ bs) = ranges_from (suc i) (Some f) bs
ranges_from i (Some f) (false ∷ bs) = range f (i - 1) ∷ ranges_from (suc i) None bs

abbrev pub ranges_of : List Bool → List Range
ranges_of bs = ranges_from 0 None bs
