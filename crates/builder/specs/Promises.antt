-- What an append of one row n times promises, as one relation of what it is given and what comes of it, for every record, row, number and all memory. Assumes nothing.
use Rattle.std.specs.Prelude.{ℕ, ◌≡◌, Bool, List, ℤ}
use Rattle.append.specs.Appending.{Lent}
use Rattle.builder.specs.declared.Builder.{Builder}
use Rattle.builder.specs.declared.Appended.{Appended}
use Rattle.builder.specs.Building.{appended_times}

-- the answer, and what all six areas then hold
pub record Appends (builder : Builder) (lent : Lent) (times : ℕ) (present : Bool) (value : ℤ) (item : List ℕ) (answer : Appended) (left : Lent) : Type 0 where
  pub answered : answer ≡ (appended_times builder lent times present value item).answer
  pub lies : left ≡ (appended_times builder lent times present value item).areas

-- an answer by its number and the builder after it, for a call that answers the number and changes the builder in place
abbrev pub answer_of : ℕ → Builder → Appended
answer_of number builder = record { number = number; builder = builder }
