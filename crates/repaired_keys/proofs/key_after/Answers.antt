-- `repaired_keys::key_after` meets its contract: an entry that was compared is its own place. Assumes nothing.
use native.Mathlib.Omega.{arith}
use Rattle.repaired.proofs.Slots.{entry-stored}
use Rattle.repaired_keys.proofs.KeyItems as laws
use Rattle.repaired_keys.proofs.key_after.Goals as goal

pub same_slot-requires : goal.same_slot-requires
same_slot-requires c =
    let p = c.requires in
    (entry-stored _ _ _ p.0 p.1, entry-stored _ _ _ p.2 (omega arith))

pub returns-then-same_slot : goal.returns-then-same_slot
returns-then-same_slot c =
    let p = c.requires in
    laws.next-slotted _ _ _ _ _ p.3 c.if-next-kept.true _ (omega arith) c.same_slot.ensures c.if-same_slot.true
