-- `settled` meets its contract: a trailer is waited for, or nothing more. Assumes nothing.
use Rattle.arriving.proofs.Stages as laws
use Rattle.arriving.proofs.settled.Goals as goal

pub returns-then-trailed : goal.returns-then-trailed
returns-then-trailed c = laws.waits _ _ _ c.trailed.ensures c.if-trailed.true

pub returns : goal.returns
returns c = laws.decided _ _ _ c.trailed.ensures c.if-trailed.false
