-- `sheet_writer::sum` meets its contract. The loop's invariant is `Summing`. Assumes nothing.
use Rattle.sheet_writer.proofs.Loops as laws
use Rattle.sheet_writer.proofs.sum.Given as goal

abbrev pub invariant-loop-i : goal.invariant-loop-i
invariant-loop-i l = laws.Summing l.numbers l.blocks l.columns l.i l.at
