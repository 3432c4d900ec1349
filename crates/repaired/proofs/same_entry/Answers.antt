-- `repaired::same_entry` meets its contract. Assumes nothing.
use Rattle.repaired.proofs.Slots as laws
use Rattle.repaired.proofs.same_entry.Goals as goal

pub returns-then-a-b : goal.returns-then-a-b
returns-then-a-b c = laws.same-slots _ _ _ c.if-a-b.true

pub same_slot-requires : goal.same_slot-requires
same_slot-requires c =
    let p = c.requires in
    (laws.entry-stored _ _ _ p.0 p.1, laws.entry-stored _ _ _ p.0 p.2)
