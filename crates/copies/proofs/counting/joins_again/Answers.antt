-- `copies::joins_again` meets its contract: each return by the law of the test that led there. Assumes nothing.
use Rattle.copies.proofs.Numbers as laws
use Rattle.copies.proofs.counting.joins_again.Goals as goal

pub returns-then-is_coded : goal.returns-then-is_coded
returns-then-is_coded c = laws.joins-so _ _ c.is_coded.ensures c.if-is_coded.true c.run_open.ensures

pub returns : goal.returns
returns c = laws.joins-not _ _ c.is_coded.ensures c.if-is_coded.false
