-- `repaired_keys::write_counts` meets its contract. The loop's invariant is `Writing`, its measure the rows that are left. Assumes nothing.
use native.Mathlib.Omega.{arith}
use Prim.Native.Nat.{ℕ}
use mathlib.Core.List.{List}
use Rattle.varint.specs.Varint.{spelling}
use Rattle.rle.specs.RunLength.{Run, counts_of}
use Rattle.repaired_keys.proofs.Writing as laws
use Rattle.repaired_keys.proofs.write_counts.Goals as goal

abbrev count_bytes : Run → List ℕ
count_bytes r = spelling r.count

pub loop-left-init : goal.loop-left-init
loop-left-init c =
    let p = c.requires in
    laws.writing_start count_bytes _ _ _ _ _ _ _ _ _ p.2 c.none_yet-x.ensures

pub next_run-next-requires : goal.next_run-next-requires
next_run-next-requires c =
    let p = c.requires in
    (p.0, p.1, c.loop-left.invariant.ahead, omega arith)

pub write_count-to-requires : goal.write_count-to-requires
unfolding counts_of
write_count-to-requires c =
    laws.writing-room count_bytes _ _ _ _ _ _ _ _ _ c.loop-left.invariant c.next_run-next.ensures c.requires.3

pub loop-left-preserved : goal.loop-left-preserved
loop-left-preserved c =
    laws.writing_step count_bytes _ _ _ _ _ _ _ _ _ c.loop-left.invariant c.next_run-next.ensures c.write_count-to.ensures.value c.write_count-to.ensures.out_after

pub shape_of-out : goal.shape_of-out
shape_of-out c = c.loop-left.invariant.long

pub returns : goal.returns
unfolding counts_of
returns c = laws.writing-end count_bytes _ _ _ _ _ _ _ _ _ c.loop-left.invariant (omega arith)
