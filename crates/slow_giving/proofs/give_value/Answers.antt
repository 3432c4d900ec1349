-- `give_value` meets its contract: each return by the room that was tested. Assumes nothing.
use native.Mathlib.Omega.{arith}
use mir.Facts.{to_z-of_z}
use Rattle.slow_giving.proofs.Given.{int-no-flag, int-no-room, int-given}
use Rattle.slow_giving.proofs.give_value.Goals as goal

pub returns-then-flags-eq0 : goal.returns-then-flags-eq0
returns-then-flags-eq0 c =
    let a = c.args in
    int-no-flag a.value a.flag a.values.now a.flags.now c.if-flags-eq0.true

pub returns-then-values-eq0 : goal.returns-then-values-eq0
returns-then-values-eq0 c =
    let a = c.args in
    int-no-room a.value a.flag a.values.now a.flags.now c.if-values-eq0.true

pub returns : goal.returns
returns c =
    let a = c.args in
    rw (to_z-of_z c.ranges.value)
    (int-given a.value a.flag a.values.now a.flags.now (omega arith) (omega arith))
