-- `put_bytes` meets its contract. The loop's invariant: what is still to be written covers all that was copied too much. Assumes nothing.
use Prim.Native.Nat.{◌-◌}
use Rattle.char_rows.proofs.TextsLaid.{TextsLaid}
use Rattle.char_rows.proofs.put_bytes.Given as goal

abbrev pub invariant-loop-i : goal.invariant-loop-i
invariant-loop-i l = TextsLaid l.w l.s l.from l.n l.ends l.total l.initial.bytes l.bytes l.at l.i

abbrev pub decreases-loop-i : goal.decreases-loop-i
decreases-loop-i l = l.n - l.i
