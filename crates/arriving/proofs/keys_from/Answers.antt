-- `keys_from` meets its contract: keys are left or not. Assumes nothing.
use Rattle.arriving.proofs.Stages as laws
use Rattle.arriving.proofs.keys_from.Goals as goal

pub returns-then-n-eq0 : goal.returns-then-n-eq0
returns-then-n-eq0 c = laws.no_keys _ _ _ c.if-n-eq0.true c.plain_from.ensures

pub returns : goal.returns
returns c = laws.more-keys _ _ _ _ c.if-n-eq0.false
