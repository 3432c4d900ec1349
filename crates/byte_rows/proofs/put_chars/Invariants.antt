-- `byte_rows::put_chars` meets its contract: the law of the loops over runs that write texts, at char, and that of those that write an element a row, at
-- the flags. Assumes nothing.
use Prim.Native.Nat.{ℕ, ◌+◌, ◌-◌}
use Rattle.source.specs.Rows.{flag_by}
use Rattle.source.proofs.Filled as flagged
use Rattle.byte_rows.proofs.RunTexts.{Written}
use Rattle.byte_rows.proofs.put_chars.Given as goal

abbrev pub invariant-loop-left : goal.invariant-loop-left
invariant-loop-left l = Written l.s l.marks l.items l.counts l.n l.initial.place l.initial.ends l.initial.bytes l.place l.left l.to l.at l.ends l.bytes
    × flagged.Filled ℕ (flag_by l.s l.marks l.items) l.s.coded l.s.runs l.counts l.n l.initial.place l.initial.flags l.place l.left l.to l.flags

abbrev pub decreases-loop-left : goal.decreases-loop-left
decreases-loop-left l = l.left + (l.s.runs - l.place.run)
