-- `slots::put_flag` meets its contract: the first bit of a byte is set in 0, and every other in what is there. Assumes nothing.
use Rattle.slots.proofs.Areas.{flag-new, flag-more}
use Rattle.slots.proofs.put_flag.Goals as goal

pub returns-then-s-eq0 : goal.returns-then-s-eq0
returns-then-s-eq0 c = flag-new _ _ _ c.if-s-eq0.true c.with_bit.ensures

pub returns : goal.returns
returns c = flag-more _ _ _ c.if-s-eq0.false c.with_bit-2.ensures
