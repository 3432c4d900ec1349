-- Lent areas: what one holds after something was written into it at a place. Assumes nothing.
use Rattle.std.specs.Prelude.{ℕ, zero, suc, ◌+◌, Bool, List, [], ◌∷◌, ◌++◌, leb, length, take, drop}

module _ {A : Type 0} where
  -- whether n more elements fit from the place on
  abbrev pub fits_at : List A → ℕ → ℕ → Bool
  fits_at area at n = leb (at + n) (length area)

  -- the area with vs laid over it from the place on; what lies before and behind stays
  unfoldable pub over : List A → ℕ → List A → List A
  over area at vs = take at area ++ vs ++ drop (at + length vs) area

-- bytes so many times one after the other
unfoldable pub repeats : ℕ → List ℕ → List ℕ
repeats zero xs = []
repeats (suc m) xs = xs ++ repeats m xs

-- so many ends, each a step behind the one before
unfoldable pub climbs : ℕ → ℕ → ℕ → List ℕ
climbs zero start step = []
climbs (suc m) start step = (start + step) ∷ climbs m (start + step) step
