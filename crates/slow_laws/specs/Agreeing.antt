-- 02 (xiii): "for every sound block and every r below n it gives what a fresh reader gives after skipping r". Assumes nothing.
use Rattle.std.specs.Prelude.{ℕ, ◌<◌, List, ◌≡◌, length}
use Rattle.format.specs.Blocks.{column_of}
use Rattle.block.specs.declared.Reader.{Reader}
use Rattle.block.specs.Reading.{Areas, reader_at, head_in, Batch, read}
use Rattle.descriptor.specs.declared.Descriptor.{Descriptor}
use Rattle.descriptor.specs.Descriptor.{described_number}
use Rattle.slow_answer.specs.Slow.{Shown, row_shown}

-- the reader that opening gives for a sound block
abbrev pub fresh : Descriptor → List ℕ → Reader
fresh d b = reader_at d.kind d.encoding d.width d.rows (length b) (head_in (column_of d.kind d.encoding d.width) b)

-- one row given behind r that are skipped
abbrev pub behind : Descriptor → List ℕ → ℕ → Areas → Batch
behind d b r a = read (fresh d b) b r 1 a

-- number, bytes and all lent memory are the same
abbrev pub Same : Shown → Batch → Type 0
Same x y = (x.answer.number ≡ y.answer.number) × (x.answer.bytes ≡ y.answer.bytes) × (x.areas ≡ y.areas)

-- whatever is lent
abbrev pub Agree : Type 0
Agree =
    (d : Descriptor) (b : List ℕ) (r : ℕ) (a : Areas)
    → described_number d b ≡ 0
    → r < d.rows
    → Same (row_shown d b r a) (behind d b r a)
