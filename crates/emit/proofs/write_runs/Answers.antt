-- `write_runs` meets its contract: two numbers of four bytes, and the counts behind them. Assumes nothing.
use Prim.Native.Nat.{◌+◌, ◌≤◌}
use mathlib.Core.List.{◌++◌}
use lib.ListN.{length}
use Rattle.encode.specs.Bytes.{little}
use Rattle.emit.specs.Parts.{held_counts}
use Rattle.emit.proofs.Writing as laws
use Rattle.emit.proofs.write_runs.Goals as goal

pub put_low4-a-requires : goal.put_low4-a-requires
put_low4-a-requires c =
    let room : let a = c.args in a.at + length (little 4 a.n ++ little 4 a.len) ≤ length a.out.now = let a = c.args in
    laws.room-first a.out.now a.at (little 4 a.n ++ little 4 a.len) (held_counts a.n a.counts.now) c.requires.1 in
    let a = c.args in
    laws.room-first a.out.now a.at (little 4 a.n) (little 4 a.len) (room)

pub put_low4-b-requires : goal.put_low4-b-requires
put_low4-b-requires c =
    let room : let a = c.args in a.at + length (little 4 a.n ++ little 4 a.len) ≤ length a.out.now = let a = c.args in
    laws.room-first a.out.now a.at (little 4 a.n ++ little 4 a.len) (held_counts a.n a.counts.now) c.requires.1 in
    let a = c.args in
    laws.room-second a.out.now a.at (little 4 a.n) (little 4 a.len) (c.put_low4-a.ensures.value, c.put_low4-a.ensures.out_after) (room)

pub write_counts-requires : goal.write_counts-requires
write_counts-requires c =
    let a = c.args in
    let head = laws.laid_both a.out.now a.at (little 4 a.n) (little 4 a.len)
    (c.put_low4-a.ensures.value, c.put_low4-a.ensures.out_after) (c.put_low4-b.ensures.value, c.put_low4-b.ensures.out_after) in
    (c.requires.0, laws.room-second a.out.now a.at (little 4 a.n ++ little 4 a.len) (held_counts a.n a.counts.now) head c.requires.1)

pub returns : goal.returns
returns c =
    let a = c.args in
    let head = laws.laid_both a.out.now a.at (little 4 a.n) (little 4 a.len)
    (c.put_low4-a.ensures.value, c.put_low4-a.ensures.out_after) (c.put_low4-b.ensures.value, c.put_low4-b.ensures.out_after) in
    let all = laws.laid_both a.out.now a.at (little 4 a.n ++ little 4 a.len) (held_counts a.n a.counts.now) head
    (c.write_counts.ensures.value, c.write_counts.ensures.out_after) in
    record { value = all.0; out_after = all.1 }
