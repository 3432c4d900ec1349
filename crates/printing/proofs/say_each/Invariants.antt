-- `say_each` meets its contract: the rows that are left decide what comes back of all of them. Assumes nothing.
use Rattle.printing.proofs.RowsListed as laws
use Rattle.printing.proofs.say_each.Given as goal

abbrev pub invariant-loop-i : goal.invariant-loop-i
invariant-loop-i l = laws.Listing l.n l.initial.reader l.block l.initial.bytes l.initial.text l.bytes l.text l.reader l.i
