-- Text once more, without a walk: sequences one after another, each of them by a row of the Standard's table. Assumes nothing.
use Rattle.std.specs.Prelude.{ℕ, true, List, [], ◌∷◌, ◌++◌, ◌⊎◌, ◌≡◌}
use Rattle.utf8.specs.Utf8.{Range, Form, forms, within}

-- a byte in each of these ranges
abbrev pub InRanges : List Range → List ℕ → Type 0
InRanges [] [] = Unit
InRanges [] (b ∷ bs) = ⊥
InRanges (r ∷ rs) [] = ⊥
InRanges (r ∷ rs) (b ∷ bs) = (within r b ≡ true) × InRanges rs bs

-- bytes by a row, and by one of some rows
abbrev pub ByRow : Form → List ℕ → Type 0
ByRow f bs = InRanges (f.first ∷ f.behind) bs

abbrev pub ByOneOf : List Form → List ℕ → Type 0
ByOneOf [] bs = ⊥
ByOneOf (f ∷ fs) bs = ByRow f bs ⊎ ByOneOf fs bs

-- sequences one after another
pub data Sequences : List ℕ → Type 0 where
  none : Sequences []
  more : (bs rest : List ℕ) → ByOneOf forms bs → Sequences rest → Sequences (bs ++ rest)
