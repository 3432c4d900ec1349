-- For the code: an opening and a read in turn, by their numbers. Assumes nothing.
use Rattle.std.specs.Prelude.{ℕ, cond, eqb}

-- the opening's number if it is a refusal, or the read's
unfoldable pub first_refusal : ℕ → ℕ → ℕ
first_refusal o g = cond (eqb o 0) g o
