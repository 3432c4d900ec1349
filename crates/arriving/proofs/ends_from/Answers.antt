-- `ends_from` meets its contract: behind the last end it is the data's length or isn't. Assumes nothing.
use Rattle.arriving.proofs.Stages as laws
use Rattle.arriving.proofs.ends_from.Goals as goal

pub returns-then-last-long : goal.returns-then-last-long
returns-then-last-long c = laws.ends-right _ _ _ _ c.if-n-eq0.true c.if-last-long.true c.settled.ensures

pub returns-then-n-eq0 : goal.returns-then-n-eq0
returns-then-n-eq0 c = laws.ends-wrong _ _ _ _ c.if-n-eq0.true c.if-last-long.false c.settled-then-n-eq0.ensures

pub returns : goal.returns
returns c = laws.more-ends _ _ _ _ _ c.if-n-eq0.false
