-- Opening and a read in one call: the opening's refusal, or the read's answer. Assumes nothing.
use Rattle.std.specs.Prelude.{ℕ, ◌≡◌, cond, List, eqb}
use Rattle.block.specs.declared.Given.{Given}
use Rattle.block.specs.Reading.{Areas, Batch, refused_batch, opened, read, opening_of}
use Rattle.block.specs.declared.Opening.{Opening}

unfoldable pub read_from : Opening → List ℕ → ℕ → ℕ → Areas → Batch
read_from o b skip size a = cond (eqb o.number 0) (read o.reader b skip size a) (refused_batch o.number o.reader a)

abbrev pub read_block : ℕ → ℕ → ℕ → ℕ → List ℕ → ℕ → ℕ → Areas → Batch
read_block kind encoding width rows b skip size a = read_from (opening_of (opened kind encoding width rows b)) b skip size a

-- what `read` promises, as one relation: clause by clause its contract
abbrev pub Reads : (kind encoding width rows : ℕ) (block : List ℕ) (skip size : ℕ) (lent : Areas) → Given → Areas → Type 0
Reads kind encoding width rows block skip size lent answer left =
    (answer ≡ (read_block kind encoding width rows block skip size lent).answer)
    × (left.values ≡ (read_block kind encoding width rows block skip size lent).areas.values)
    × (left.flags ≡ (read_block kind encoding width rows block skip size lent).areas.flags)
    × (left.ends ≡ (read_block kind encoding width rows block skip size lent).areas.ends)
    × (left.bytes ≡ (read_block kind encoding width rows block skip size lent).areas.bytes)
