-- 01, "Listing program": the opening of an input, which begins with the eight descriptor bytes. Assumes nothing.
use Rattle.std.specs.Prelude.{ℕ, cond, List, ltb, length, take, drop, Result, Err}
use Rattle.limits.specs.Limits.{MOST_INPUT}
use Rattle.limits.specs.Refusals.{LIMIT, CUT}
use Rattle.block.specs.declared.Reader.{Reader}
use Rattle.descriptor.specs.Descriptor.{descriptor_of, described_opened}

-- the listing program's input, opened
unfoldable pub input_opened : List ℕ → Result Reader ℕ
input_opened s =
    cond (ltb (length s) 8) (Err CUT)
    (cond (ltb MOST_INPUT (length s)) (Err LIMIT)
    (described_opened (descriptor_of (take 8 s)) (drop 8 s)))

-- what follows the descriptor; of an input that is too short for one, all of it
unfoldable pub block_in : List ℕ → List ℕ
block_in s = cond (ltb (length s) 8) s (drop 8 s)
