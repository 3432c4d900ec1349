-- `area::climb` meets its contract. The loop's invariant is `Climbing`. Assumes nothing.
use Prim.Native.Nat.{◌+◌, ◌-◌}
use Rattle.area.proofs.Loops as laws
use Rattle.area.proofs.climb.Given as goal

abbrev pub invariant-loop-i : goal.invariant-loop-i
invariant-loop-i l = laws.Climbing l.initial.dst l.at l.n l.start l.step l.dst (l.at + l.n - l.i) l.i l.end
