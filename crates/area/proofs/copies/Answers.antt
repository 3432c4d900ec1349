-- `area::copies` meets its contract. The loop's invariant is `Repeating`. Assumes nothing.
use native.Mathlib.Omega.{arith}
use mathlib.Core.Path.{◌≡◌}
use Prim.Native.Nat.{◌+◌, ◌-◌}
use Rattle.area.proofs.Loops as laws
use Rattle.area.proofs.copies.Goals as goal

pub loop-i-init : goal.loop-i-init
loop-i-init c = laws.repeating-start _ _ _ _ _ _ c.requires.1

pub copy-requires : goal.copy-requires
copy-requires c = let k = laws.repeating-room c.loop-i.invariant (omega arith) in omega arith

pub overflow_add-to : goal.overflow_add-to
overflow_add-to c = let k = laws.repeating-room c.loop-i.invariant (omega arith) in omega arith

pub loop-i-preserved : goal.loop-i-preserved
loop-i-preserved c =
    let m : c.args.times - c.loop-i._i - 1 ≡ c.args.times - (c.loop-i._i + 1) = omega arith in
    rw m at (laws.repeating-step c.loop-i.invariant (omega arith) (omega arith) c.copy.ensures)

pub returns : goal.returns
returns c = laws.repeating-end c.loop-i.invariant (omega arith)
