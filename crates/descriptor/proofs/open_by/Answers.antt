-- `open_by` meets its contract: the zero bit is tested as `described_opened` tests it. Assumes nothing.
use native.Mathlib.Omega.{arith}
use Rattle.descriptor.proofs.Openings as laws
use Rattle.descriptor.proofs.open_by.Goals as goal

pub returns-then-d-ne0 : goal.returns-then-d-ne0
returns-then-d-ne0 c = laws.by-refused _ _ (omega arith)

pub returns : goal.returns
returns c = laws.by-opened _ _ (omega arith) c.open.ensures
