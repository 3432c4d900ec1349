-- `compare_lent` meets its contract: as many bytes of each room are lent. Assumes nothing.
use Prim.Native.Nat.{◌+◌}
use native.Mathlib.Omega.{arith}
use mathlib.Core.Path.{sym, ◌∙◌}
use lib.ListN.{length}
use lib.Seq.{length-take-le}
use Rattle.night_rows.proofs.compare_lent.Goals as goal

pub slice_bounds-compare_opened-end-2 : goal.slice_bounds-compare_opened-end-2
slice_bounds-compare_opened-end-2 c =
    let a = c.args in
    sym (length-take-le (length a.block.now + 1) a.one.now (omega arith))

pub slice_bounds-compare_opened-end-4 : goal.slice_bounds-compare_opened-end-4
slice_bounds-compare_opened-end-4 c =
    let a = c.args in
    sym (length-take-le (length a.block.now + 1) a.other.now (omega arith))

pub compare_opened-requires : goal.compare_opened-requires
compare_opened-requires c =
    let a = c.args in
    let n = length a.block.now + 1 in
    (c.requires.0, c.requires.1, length-take-le n a.one.now (omega arith) ∙ sym (length-take-le n a.other.now (omega arith)))
