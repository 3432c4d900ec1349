-- What was kept is in the room. Assumes nothing.
use Rattle.std.proofs.Common.{◌≤◌, length}
use Rattle.night_by.proofs.lines.read_line.Given as goal

abbrev pub invariant-loop : goal.invariant-loop
invariant-loop l = l.len ≤ length l.room
