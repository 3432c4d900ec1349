-- `area::climb` meets its contract. The loop's invariant is `Climbing`. Assumes nothing.
use native.Mathlib.Omega.{arith}
use mathlib.Core.Path.{◌≡◌}
use Prim.Native.Nat.{◌+◌, ◌-◌}
use Rattle.area.proofs.Loops as laws
use Rattle.area.proofs.climb.Goals as goal

pub loop-i-init : goal.loop-i-init
loop-i-init c = laws.climbing-start _ _ _ _ _ c.requires.0 c.requires.1

pub overflow_add-end : goal.overflow_add-end
overflow_add-end c = let k = laws.climbing-small c.loop-i.invariant (omega arith) in omega arith

pub bounds-dst-i : goal.bounds-dst-i
bounds-dst-i c = omega (arith, c.loop-i.invariant.room)

pub loop-i-preserved : goal.loop-i-preserved
loop-i-preserved c =
    let m : c.args.at + c.args.n - c.loop-i.i - 1 ≡ c.args.at + c.args.n - (c.loop-i.i + 1) = omega arith in
    rw m at (laws.climbing-step c.loop-i.invariant (omega arith))

pub shape_of-dst : goal.shape_of-dst
shape_of-dst c = c.loop-i.invariant.long

pub returns : goal.returns
returns c = laws.climbing-end c.loop-i.invariant (omega arith)
