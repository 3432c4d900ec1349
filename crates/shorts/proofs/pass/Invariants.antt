-- `shorts::pass` meets its contract. The loop keeps the groups so far, and what the next one is; the measure is the runs left. Assumes nothing.
use Prim.Native.Nat.{◌+◌, ◌-◌}
use Rattle.std.specs.Option.{IfSome}
use Rattle.shorts.specs.Shorts.{Passes, Group}
use Rattle.shorts.proofs.Groups.{passed}
use Rattle.shorts.proofs.pass.Given as goal

abbrev pub invariant-loop-next : goal.invariant-loop-next
invariant-loop-next l =
    Passes l.s l.from l.runs l.rows (passed l.passed l.sum) × IfSome l.next (Group l.s (l.from + l.passed) (l.runs - l.passed) (l.rows - l.sum))

abbrev pub decreases-loop-next : goal.decreases-loop-next
decreases-loop-next l = l.runs - l.passed
