-- What each function promises, as one relation of what it is given and what comes of it. Assumes nothing.
use Rattle.std.specs.Prelude.{ℕ, Option, ◌≡◌, List, length}
use Rattle.varint.specs.declared.Count.{Count}
use Rattle.varint.specs.Varint.{count_at, spelling, wrote, wrote_over}

abbrev pub Decodes : (s : List ℕ) (at : ℕ) → Option Count → Type 0
Decodes s at answer = answer ≡ count_at s at

abbrev pub Encodes : (value : ℕ) (dst : List ℕ) (at : ℕ) → Option ℕ → List ℕ → Type 0
Encodes value dst at answer left = (answer ≡ wrote dst at (spelling value)) × (left ≡ wrote_over dst at (spelling value))

abbrev pub Sizes : (value : ℕ) → ℕ → Type 0
Sizes value answer = answer ≡ length (spelling value)
