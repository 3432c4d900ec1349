-- For the code: the first of n items at which a test holds, which for the fixed kinds is the whole lookup. Assumes nothing.
use Rattle.std.specs.Prelude.{ℕ, ◌*◌, Bool, cond, List, [], ◌∷◌, eqb, ℤ, take, drop}
use Rattle.encode.specs.declared.Primitive.{Primitive}
use Rattle.encode.specs.Bytes.{number}
use Rattle.plain.specs.Rows.{same_int}
use Rattle.plain.specs.Plain.{places, fixed_at}

-- the first of some places at which the test holds; n if there is none
unfoldable pub first_at : (ℕ → Bool) → ℕ → List ℕ → ℕ
first_at test n [] = n
first_at test n (i ∷ is) = cond (test i) i (first_at test n is)

-- by value
unfoldable pub first_value : Primitive → List ℕ → ℕ → ℤ → ℕ
first_value p items n v = first_at (λ (i : ℕ). same_int v (fixed_at p items i)) n (places n 0)

-- by the number of the item's w bytes, lowest first
unfoldable pub first_number : ℕ → List ℕ → ℕ → ℕ → ℕ
first_number w items n want = first_at (λ (i : ℕ). eqb (number (take w (drop (i * w) items))) want) n (places n 0)
