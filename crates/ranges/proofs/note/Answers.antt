-- `ranges::note` meets its contract: with the slot and without it, by its law. Assumes nothing.
use native.Mathlib.Omega.{arith}
use Rattle.ranges.proofs.Steps as laws
use Rattle.ranges.proofs.note.Goals as goal

pub returns-then-i-list : goal.returns-then-i-list
returns-then-i-list c = let a = c.args in laws.slot-there a.list.now a.i a.x (omega arith)

pub returns-else-i-list : goal.returns-else-i-list
returns-else-i-list c = let a = c.args in laws.no_slot a.list.now a.i a.x (omega arith)
