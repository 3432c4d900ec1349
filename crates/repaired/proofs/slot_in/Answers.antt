-- `repaired::slot_in` meets its contract. Assumes nothing.
use native.Mathlib.Omega.{arith}
use Rattle.repaired.proofs.Slots as laws
use Rattle.repaired.proofs.slot_in.Goals as goal

pub returns-then-entries-slot : goal.returns-then-entries-slot
returns-then-entries-slot c = (laws.no-entry _ _ _ c.slot_at-slot.ensures.0 (omega arith), omega arith)

pub returns : goal.returns
returns c = (laws.an-entry _ _ _ c.slot_at-slot.ensures.0 (omega arith), omega arith)
