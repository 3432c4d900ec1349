-- `give_bytes` meets its contract. Each return by the room that was tested. The loop's invariant is `Copying`. Assumes nothing.
use mathlib.Core.Path.{◌∙◌}
use Rattle.area.proofs.Laws.{over-sets}
use native.Mathlib.Omega.{arith}
use lib.ListN.{take, drop}
use native.Mathlib.Nat.{zero-add}
use Rattle.area.proofs.Loops.{copying-start, copying-step, copying-end}
use Rattle.slow_giving.proofs.Given.{part-long, bytes-no-flag, bytes-no-end, bytes-no-room, bytes-given}
use Rattle.slow_giving.proofs.give_bytes.Goals as goal

pub returns-then-flags-eq0 : goal.returns-then-flags-eq0
returns-then-flags-eq0 c =
    let a = c.args in
    bytes-no-flag (take a.len (drop a.from a.s.now)) a.flag a.flags.now a.ends.now a.bytes.now c.if-flags-eq0.true

pub returns-then-ends-eq0 : goal.returns-then-ends-eq0
returns-then-ends-eq0 c =
    let a = c.args in
    bytes-no-end (take a.len (drop a.from a.s.now)) a.flag a.flags.now a.ends.now a.bytes.now c.if-ends-eq0.true

pub returns-then-bytes-len : goal.returns-then-bytes-len
returns-then-bytes-len c =
    let a = c.args in
    bytes-no-room (take a.len (drop a.from a.s.now)) a.flag a.flags.now a.ends.now a.bytes.now
    (part-long a.s.now a.from a.len c.requires.0) (omega arith)

pub loop-i-init : goal.loop-i-init
loop-i-init c = copying-start _ _ _ _ _ (omega arith)

pub loop-i-preserved : goal.loop-i-preserved
loop-i-preserved c = rw zero-add at (copying-step c.loop-i.invariant (omega arith) (omega arith))

pub shape_of-bytes : goal.shape_of-bytes
shape_of-bytes c = c.loop-i.invariant.long

pub returns : goal.returns
returns c =
    let a = c.args in
    bytes-given (take a.len (drop a.from a.s.now)) a.flag a.flags.now a.ends.now a.bytes.now
    (part-long a.s.now a.from a.len c.requires.0) c.requires.1 (omega arith) (omega arith) (omega arith)
    (copying-end c.loop-i.invariant (omega arith)
    ∙ over-sets (take a.len (drop a.from a.s.now)) a.bytes.now 0 (omega (arith, part-long a.s.now a.from a.len c.requires.0)))
