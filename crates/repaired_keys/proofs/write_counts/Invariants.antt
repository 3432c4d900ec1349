-- `repaired_keys::write_counts` meets its contract. The loop's invariant is `Writing`, its measure the rows that are left. Assumes nothing.
use Prim.Native.Nat.{ℕ}
use mathlib.Core.List.{List}
use Rattle.varint.specs.Varint.{spelling}
use Rattle.rle.specs.RunLength.{Run}
use Rattle.repaired_keys.proofs.Writing as laws
use Rattle.repaired_keys.proofs.write_counts.Given as goal

abbrev count_bytes : Run → List ℕ
count_bytes r = spelling r.count

abbrev pub invariant-loop-left : goal.invariant-loop-left
invariant-loop-left l = laws.Writing count_bytes l.kind l.entries l.runs l.counts l.keys l.items l.n l.initial.out l.at l.out l.to l.left l.x

abbrev pub decreases-loop-left : goal.decreases-loop-left
decreases-loop-left l = l.left
