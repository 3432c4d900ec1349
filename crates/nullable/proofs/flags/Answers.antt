-- `nullable::flags` meets its contract. The loop's invariant is `Telling` of the bits, its measure the rows that are left. Assumes nothing.
use native.Mathlib.Omega.{arith}
use Rattle.nullable.proofs.Rows as laws
use Rattle.nullable.proofs.flags.Goals as goal

pub loop-i-init : goal.loop-i-init
loop-i-init c = laws.telling-start _ _ _ _

pub put_some-i-requires : goal.put_some-i-requires
put_some-i-requires c = let g = c.loop-i.invariant in let r = g.room in (omega arith, omega arith, omega arith)

pub loop-i-preserved : goal.loop-i-preserved
loop-i-preserved c =
    let g = c.loop-i.invariant in
    laws.telling-some g c.put_some-i.ensures.result_nonzero.1 (omega arith) c.put_some-i.ensures.out_after

pub returns : goal.returns
returns c = laws.telling-end c.loop-i.invariant (omega arith)
