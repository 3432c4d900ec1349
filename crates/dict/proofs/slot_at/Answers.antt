-- `dict::slot_at` meets its contract: the law of a number of 32 bits, at the key's. Assumes nothing.
use native.Mathlib.Omega.{arith}
use Rattle.dict.proofs.Slots as laws
use Rattle.dict.proofs.slot_at.Goals as goal

pub returns : goal.returns
returns c =
    let a = c.args in
    (laws.slot-found a.keys.now a.i c.u32_at.ensures.0 c.u32_at.ensures.1, omega arith)
