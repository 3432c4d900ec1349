-- `put_ends` meets its contract. The loop's invariant: what is still to be stored, from the total so far on. Assumes nothing.
use Prim.Native.Nat.{◌-◌}
use Rattle.char_rows.proofs.EndsStored.{EndsStored}
use Rattle.char_rows.proofs.put_ends.Given as goal

abbrev pub invariant-loop-i : goal.invariant-loop-i
invariant-loop-i l = EndsStored l.w l.s l.from l.n l.initial.ends l.ends l.total l.i

abbrev pub decreases-loop-i : goal.decreases-loop-i
decreases-loop-i l = l.n - l.i
