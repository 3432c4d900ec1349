-- `nullable::blank` meets its contract. The loop's invariant is `Blanking`. Assumes nothing.
use Rattle.nullable.proofs.Rows as laws
use Rattle.nullable.proofs.blank.Given as goal

abbrev pub invariant-loop-i : goal.invariant-loop-i
invariant-loop-i l = laws.Blanking l.flags l.n l.initial.values l.values l.i
