-- Every read of the reader beside a refused opening is refused, and writes nothing; so the two calls one after the other come to the definition.
-- Assumes nothing.
use Prim.Native.Nat.{ℕ}
use mathlib.Core.Bool.{Bool, true, false, cond}
use mathlib.Core.List.{List}
use mathlib.Core.Path.{◌≡◌, refl, ap, subst, ◌∙◌}
use lib.Dec.{eqb}
use Rattle.std.specs.Prelude.{Result, Ok, Err}
use Rattle.encode.specs.Kinds.{numbered, kind_of}
use Rattle.format.specs.Blocks.{column_of, with_encoding}
use Rattle.block.specs.declared.Given.{Given}
use Rattle.block.specs.declared.Reader.{Reader}
use Rattle.block.specs.Reading.{Areas, Batch, refused_batch, no_reader, asks_nothing, read_in, read, opening_of}
use Rattle.view.specs.declared.Steps.{Steps}
use Rattle.view.specs.Viewing.{read_from}
use Rattle.in_turn.specs.InTurn.{first_refusal}
use Rattle.view.specs.Stepwise.{Read, stepwise}

-- what `read` makes of the two answers
abbrev told_by : ℕ → Steps → Given
told_by e x = record { number = e; rows = x.rows; bytes = x.bytes; reader = x.reader }

abbrev number_in : Steps → ℕ
number_in x = first_refusal x.opened x.given

abbrev told : Read → Batch
told x = record { answer = told_by (number_in x.answer) x.answer; areas = x.areas }

module _ (b : List ℕ) (skip size : ℕ) (a : Areas) where
  -- 6 if the read asks for nothing, and else 9: no rows and no bytes are given, the reader comes back, and the areas stay
  pub no-reader-refused : read no_reader b skip size a ≡ refused_batch (cond (asks_nothing skip size) 6 9) no_reader a
  unfolding read read_in column_of with_encoding kind_of numbered
  no-reader-refused = go (asks_nothing skip size)
    where
      go : (p : Bool) → cond p (refused_batch 6 no_reader a) (refused_batch 9 no_reader a) ≡ refused_batch (cond p 6 9) no_reader a
      go true = refl
      go false = refl

  -- ---- the two calls come to the definition
  -- a read, with the number that is told of it
  abbrev with_number : ℕ → Batch → Batch
  with_number e g = record { answer = record { number = e; rows = g.answer.rows; bytes = g.answer.bytes; reader = g.answer.reader }; areas = g.areas }

  unopened : (e : ℕ) (p : Bool)
      → with_number (cond p (read no_reader b skip size a).answer.number e) (read no_reader b skip size a)
      ≡ cond p (read no_reader b skip size a) (refused_batch e no_reader a)
  unopened e true = refl
  unopened e false = ap (with_number e) no-reader-refused

  tells : (x : Result Reader ℕ) → told (stepwise (opening_of x) b skip size a) ≡ read_from (opening_of x) b skip size a
  unfolding first_refusal read_from opening_of
  tells (Ok r) = refl
  tells (Err e) = unopened e (eqb e 0)

  -- what is said of the four areas, after the two calls and by the definition
  abbrev Hold : Areas → Areas → Type 0
  Hold y z = (y.values ≡ z.values) × ((y.flags ≡ z.flags) × ((y.ends ≡ z.ends) × (y.bytes ≡ z.bytes)))

  pub read_told : (x : Result Reader ℕ) (st : Steps) (e : ℕ) (y : Areas) → e ≡ number_in st
      → (st ≡ (stepwise (opening_of x) b skip size a).answer) × Hold y (stepwise (opening_of x) b skip size a).areas
      → (told_by e st ≡ (read_from (opening_of x) b skip size a).answer) × Hold y (read_from (opening_of x) b skip size a).areas
  read_told x st e y p q =
      subst (λ (z : Batch). (told_by e st ≡ z.answer) × Hold y z.areas) (tells x)
      (ap (λ (m : ℕ). told_by m st) p ∙ ap (λ (t : Steps). told_by (number_in t) t) q.0, q.1)
