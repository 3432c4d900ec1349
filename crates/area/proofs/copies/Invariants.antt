-- `area::copies` meets its contract. The loop's invariant is `Repeating`. Assumes nothing.
use Prim.Native.Nat.{◌-◌}
use Rattle.area.proofs.Loops as laws
use Rattle.area.proofs.copies.Given as goal

abbrev pub invariant-loop-i : goal.invariant-loop-i
invariant-loop-i l = laws.Repeating l.src l.from l.n l.initial.dst l.at l.times l.dst (l.times - l._i) l.to
