-- `varint::encode_u32` meets its contract. The loop's invariant is `Going`, its measure the number that is left to spell. Assumes nothing.
use native.Mathlib.Omega.{arith}
use Rattle.varint.proofs.Writing as laws
use Rattle.varint.proofs.encode_u32.Goals as goal

pub returns-in_err-room : goal.returns-in_err-room
returns-in_err-room c =
    let h = c.in_err-room.ensures in
    rw c.from_residual.ensures (laws.wrote_none _ _ _ _ c.size-n.ensures (omega arith))

pub returns-then-room-n : goal.returns-then-room-n
returns-then-room-n c = laws.wrote_none _ _ _ _ c.size-n.ensures (omega arith)

pub loop-v-init : goal.loop-v-init
loop-v-init c = laws.going_start _ _ _ _ (omega arith) (omega arith) (omega arith)

pub bounds-dst-i : goal.bounds-dst-i
bounds-dst-i c = laws.going-room c.loop-v.invariant

pub loop-v-preserved : goal.loop-v-preserved
loop-v-preserved c = laws.going_step c.loop-v.invariant (omega arith)

pub bounds-dst-i-2 : goal.bounds-dst-i-2
bounds-dst-i-2 c = laws.going-room c.loop-v.invariant

pub returns : goal.returns
returns c =
    laws.wrote-all _ _ _ _ c.size-n.ensures _ (omega arith)
    (laws.going_end c.loop-v.invariant (omega arith))
