-- `sheet_writer::put_entries` meets its contract. The loop's invariant is `Entering`. Assumes nothing.
use Rattle.sheet_writer.proofs.Loops as laws
use Rattle.sheet_writer.proofs.put_entries.Given as goal

abbrev pub invariant-loop-i : goal.invariant-loop-i
invariant-loop-i l = laws.Entering l.numbers l.columns l.initial.out l.out l.i l.from
