-- `varint::encode_u32` meets its contract. The loop's invariant is `Going`, its measure the number that is left to spell. Assumes nothing.
use Rattle.varint.proofs.Writing as laws
use Rattle.varint.proofs.encode_u32.Given as goal

abbrev pub invariant-loop-v : goal.invariant-loop-v
invariant-loop-v l = laws.Going l.value l.initial.dst l.at l.n l.dst l.v l.i

abbrev pub decreases-loop-v : goal.decreases-loop-v
decreases-loop-v l = l.v
