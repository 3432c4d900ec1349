-- `whole_file::is_read` meets its contract: what came of a longer file isn't asked any further. Assumes nothing.
use native.Mathlib.Omega.{arith}
use Rattle.whole_file.proofs.is_read.Goals as goal

pub returns : goal.returns
returns c more = absurd (omega arith)
