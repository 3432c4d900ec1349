-- `chars_from` meets its contract: bytes are left or not. Assumes nothing.
use Rattle.arriving.proofs.Stages as laws
use Rattle.arriving.proofs.chars_from.Goals as goal

pub returns-then-n-eq0 : goal.returns-then-n-eq0
returns-then-n-eq0 c = laws.no-chars _ _ _ _ c.if-n-eq0.true c.settled.ensures

pub returns : goal.returns
returns c = laws.more-chars _ _ _ _ _ c.if-n-eq0.false
