-- `needs::items_wrong` meets its contract: each return by the law of the tests and arms that led there. Assumes nothing.
use Rattle.needs.proofs.Wrong as wrong
use Rattle.needs.proofs.items_wrong.Goals as goal

pub returns-then-n-gt-MOST_ITEMS : goal.returns-then-n-gt-MOST_ITEMS
returns-then-n-gt-MOST_ITEMS c = wrong.items-many _ _ _ c.if-n-gt-MOST_ITEMS.true

pub returns-then-bytes_wrong : goal.returns-then-bytes_wrong
returns-then-bytes_wrong c = wrong.items-need _ _ _ c.if-n-gt-MOST_ITEMS.false c.bytes_wrong.ensures c.if-bytes_wrong.true

pub returns : goal.returns
returns c = wrong.items-large _ _ _ c.if-n-gt-MOST_ITEMS.false c.bytes_wrong.ensures c.if-bytes_wrong.false
