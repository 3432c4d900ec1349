-- `area::put_first` meets its contract. The loop's invariant is `Copying`, of the item's first bytes. Assumes nothing.
use Rattle.area.proofs.Loops as laws
use Rattle.area.proofs.put_first.Given as goal

abbrev pub invariant-loop-i : goal.invariant-loop-i
invariant-loop-i g l = laws.Copying l.item 0 g.row.N l.initial.dst l.at l.dst l.i
