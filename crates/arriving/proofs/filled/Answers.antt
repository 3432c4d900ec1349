-- `filled` meets its contract: the length is the items' or isn't. Assumes nothing.
use native.Mathlib.Omega.{arith}
use Rattle.plain.proofs.Numbers.{product_small}
use Rattle.arriving.proofs.Stages as laws
use Rattle.arriving.proofs.filled.Goals as goal

pub overflow_mul-n : goal.overflow_mul-n
overflow_mul-n c = let p = product_small c.args.n c.args.w c.requires.0 (omega (arith, c.requires.1)) in omega arith

pub returns-then-len-n : goal.returns-then-len-n
returns-then-len-n c = laws.length-kept _ _ c.if-len-n.true

pub returns : goal.returns
returns c = laws.length-broken _ _ c.if-len-n.false
