-- `written_times::write_more` meets its contract. The loop's invariant is `Going`: the rows that are left, behind what is written, make all n. The measure is their
-- number. Assumes nothing.
use Rattle.plain.specs.Rows.{row_of}
use Rattle.append.specs.Appending.{lent, room_of}
use Rattle.copies.specs.Copies.{stage, times_more}
use Rattle.written_times.proofs.Parts as laws
use Rattle.written_times.proofs.write_more.Given as goal

abbrev pub invariant-loop-left : goal.invariant-loop-left
invariant-loop-left l = let row = row_of l.kind l.present l.value l.item in
    let before = lent l.initial.items l.initial.ends l.initial.flags l.initial.counts l.initial.keys l.initial.lens in
    laws.Going l.kind l.e row l.key (times_more l.kind l.e row l.key l.initial.left (stage l.initial.now before)) (room_of before) l.now (lent l.items l.ends l.flags l.counts l.keys l.lens) l.left

abbrev pub decreases-loop-left : goal.decreases-loop-left
decreases-loop-left l = l.left
