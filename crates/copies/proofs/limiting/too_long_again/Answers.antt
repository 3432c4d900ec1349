-- `copies::too_long_again` meets its contract: each return by the law of the test that led there. Assumes nothing.
use Rattle.copies.proofs.Numbers as laws
use Rattle.copies.proofs.limiting.too_long_again.Goals as goal

pub returns-then-is_keyed : goal.returns-then-is_keyed
returns-then-is_keyed c = let a = c.args in laws.never-again a.e a.c a.len c.is_keyed.ensures c.if-is_keyed.true

pub returns : goal.returns
returns c =
    let a = c.args in
    laws.item-again a.e a.c a.len c.is_keyed.ensures c.if-is_keyed.false c.joins_again.ensures c.too_long.ensures
