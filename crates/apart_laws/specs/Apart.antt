-- Several blocks in one memory, read in any order: what is answered, and which of it belongs to one of them. Assumes nothing.
use Rattle.std.specs.Prelude.{ℕ, ◌≡◌, cond, List, [], ◌∷◌, eqb, take, drop}
use Rattle.block.specs.declared.Reader.{Reader}
use Rattle.block.specs.Calls.{Call, Answer, answer_to, after}

-- where a block lies, and the bytes there
pub record Place : Type 0 where
  pub start : ℕ
  pub size : ℕ

abbrev pub bytes_at : Place → List ℕ → List ℕ
bytes_at p memory = take p.size (drop p.start memory)

-- a call on one of the blocks, and what the memory holds then
pub record Step : Type 0 where
  pub which : ℕ
  pub call : Call
  pub memory : List ℕ

-- an answer, and the block whose call it answers
pub record Told : Type 0 where
  pub which : ℕ
  pub answer : Answer

-- the readers with that of one block changed
unfoldable pub changed : (ℕ → Reader) → ℕ → Reader → ℕ → Reader
changed readers i r j = cond (eqb i j) r (readers j)

-- the answers, where each block has its place and its reader, which may be any record
unfoldable pub told : (ℕ → Place) → (ℕ → Reader) → List Step → List Told
told places readers [] = []
told places readers (x ∷ xs) =
    let b = bytes_at (places x.which) x.memory in
    let r = readers x.which in
    record { which = x.which; answer = answer_to r b x.call } ∷ told places (changed readers x.which (after r b x.call)) xs

-- ---- what belongs to block j
unfoldable pub calls_on : ℕ → List Step → List Call
calls_on j [] = []
calls_on j (x ∷ xs) = cond (eqb x.which j) (x.call ∷ calls_on j xs) (calls_on j xs)

unfoldable pub answers_of : ℕ → List Told → List Answer
answers_of j [] = []
answers_of j (t ∷ ts) = cond (eqb t.which j) (t.answer ∷ answers_of j ts) (answers_of j ts)

-- at each call on block j the memory holds these bytes at its place; what it holds elsewhere is anything, and so is all of it while others are called
abbrev pub Holding : ℕ → Place → List ℕ → List Step → Type 0
Holding j p b [] = Unit
Holding j p b (x ∷ xs) = (x.which ≡ j → bytes_at p x.memory ≡ b) × Holding j p b xs
