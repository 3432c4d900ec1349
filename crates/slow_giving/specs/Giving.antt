-- For the code: what is handed back of one row, and what the lent areas then hold, is what is due. Assumes nothing.
use Rattle.std.specs.Prelude.{ℕ, true, false, List, ◌≡◌, ℤ, Result}
use Rattle.limits.specs.declared.refusal.Refusal.{Refusal}
use Rattle.encode.specs.declared.Kind.{Kind}
use Rattle.plain.specs.Rows.{Row, int_in, bytes_in}
use Rattle.nullable.specs.Nullable.{presence}
use Rattle.fill.specs.Areas.{Areas, areas, is_bytes}
use Rattle.slow_answer.specs.Slow.{Shown, answer_of, shown_in}

abbrev pub Gives : Result ℕ Refusal → Areas → Shown → Type 0
Gives x after due = (answer_of x ≡ due.answer) × (after ≡ due.areas)

-- an integer and its flag: any row of a fixed kind that shows these, whatever the areas hold that such a kind doesn't use
abbrev pub GivesInt : ℤ → ℕ → List ℤ → List ℕ → Result ℕ Refusal → List ℤ → List ℕ → Type 0
GivesInt v flag vs fs x vs' fs' =
    (k : Kind) (row : Row) (es bs : List ℕ) → is_bytes k ≡ false → v ≡ int_in row → flag ≡ presence row
    → Gives x (areas vs' fs' es bs) (shown_in k row (areas vs fs es bs))

-- bytes and their flag: any row of char, blob or string that shows these
abbrev pub GivesBytes : List ℕ → ℕ → List ℕ → List ℕ → List ℕ → Result ℕ Refusal → List ℕ → List ℕ → List ℕ → Type 0
GivesBytes item flag fs es bs x fs' es' bs' =
    (k : Kind) (row : Row) (vs : List ℤ) → is_bytes k ≡ true → item ≡ bytes_in row → flag ≡ presence row
    → Gives x (areas vs fs' es' bs') (shown_in k row (areas vs fs es bs))
