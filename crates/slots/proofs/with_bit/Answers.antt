-- `slots::with_bit` meets its contract: each return is the law of the bit that is there and the bit that is wanted. Assumes nothing.
use native.Mathlib.Omega.{arith}
use Rattle.slots.proofs.Bits as laws
use Rattle.slots.proofs.with_bit.Goals as goal

pub returns-then-bit : goal.returns-then-bit
returns-then-bit c = laws.set_there _ _ (omega arith) (omega arith) c.if-bit.true c.if-byte-s-eq1.true

pub overflow_sub-result : goal.overflow_sub-result
overflow_sub-result c = laws.worth-there _ _ (omega arith) (omega arith) c.if-byte-s-eq1.true

pub returns-then-byte-s-eq1 : goal.returns-then-byte-s-eq1
returns-then-byte-s-eq1 c = laws.cleared _ _ (omega arith) (omega arith) c.if-bit.false c.if-byte-s-eq1.true

pub overflow_add-result : goal.overflow_add-result
overflow_add-result c = omega (arith, laws.worth-fits c.args.byte c.args.s (omega arith) (omega arith) c.if-byte-s-eq1.false)

pub returns-then-bit-2 : goal.returns-then-bit-2
returns-then-bit-2 c = laws.set_new _ _ (omega arith) (omega arith) c.if-bit-2.true c.if-byte-s-eq1.false

pub returns : goal.returns
returns c = laws.clear_none _ _ (omega arith) (omega arith) c.if-bit-2.false c.if-byte-s-eq1.false
