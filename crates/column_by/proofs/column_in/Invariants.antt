-- `column_in` meets its contract: the digits taken are those of the text so far. Assumes nothing.
use Rattle.column_by.proofs.Digits.{Taking}
use Rattle.column_by.proofs.column_in.Given as goal

abbrev pub invariant-loop-b : goal.invariant-loop-b
invariant-loop-b l = Taking l.text l.n l.b-index
