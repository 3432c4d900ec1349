-- `count` meets its contract: what is counted so far and what is left make up the whole. Assumes nothing.
use native.Mathlib.Omega.{arith}
use Rattle.char_rows.proofs.Letters.{counting-start, counting-step, counting-end}
use Rattle.char_rows.proofs.count.Goals as goal

pub loop-i-init : goal.loop-i-init
loop-i-init c = counting-start _ _ _

pub overflow_add-found : goal.overflow_add-found
overflow_add-found c = omega (arith, (counting-step c.loop-i.invariant c.loop-i-test.true (omega arith) c.letter-found.ensures).1)

pub loop-i-preserved : goal.loop-i-preserved
loop-i-preserved c = (counting-step c.loop-i.invariant c.loop-i-test.true (omega arith) c.letter-found.ensures).0

pub returns : goal.returns
returns c = counting-end c.loop-i.invariant (omega arith)
