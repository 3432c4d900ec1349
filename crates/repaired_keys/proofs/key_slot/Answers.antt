-- `repaired_keys::key_slot` meets its contract. Assumes nothing.
use native.Mathlib.Omega.{arith}
use Rattle.repaired_keys.proofs.KeyItems as laws
use Rattle.repaired_keys.proofs.key_slot.Goals as goal

pub returns-then-slot-eq0 : goal.returns-then-slot-eq0
returns-then-slot-eq0 c = laws.null-slotted _ _ _ _ _ c.if-slot-eq0.true

pub overflow_add-result : goal.overflow_add-result
overflow_add-result c = omega (arith, laws.index-small _ _ _ _ _ _ c.first_like.ensures)

pub returns : goal.returns
returns c = laws.entry-slotted _ _ _ _ _ _ c.first_like.ensures (omega arith)
