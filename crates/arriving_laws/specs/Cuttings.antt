-- 02 (x): a block that arrives in pieces, of any number and length. Assumes nothing.
use Rattle.std.specs.Prelude.{ℕ, ◌-◌, List, [], ◌∷◌, length}
use Rattle.encode.specs.declared.Kind.{Kind}
use Rattle.plain.specs.Plain.{joined}
use Rattle.format.specs.declared.Encoding.{Encoding}
use Rattle.arriving.specs.Arriving.{Waiting, fed}

-- the pieces one after another
abbrev pub together : List (List ℕ) → List ℕ
together pieces = joined (λ (piece : List ℕ). piece) pieces

-- what is waited for behind them, where `rest` bytes are to come
unfoldable pub fed_all : Kind → Encoding → ℕ → ℕ → Waiting → List (List ℕ) → Waiting
fed_all k e n rest w [] = w
fed_all k e n rest w (piece ∷ pieces) = fed_all k e n (rest - length piece) (fed k e n rest w piece) pieces
