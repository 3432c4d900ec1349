-- `needs::keys_wrong` meets its contract: each return by the law of the tests and arms that led there. Assumes nothing.
use Rattle.needs.proofs.Encodings as encodings
use Rattle.needs.proofs.Wrong as wrong
use native.Mathlib.Omega.{arith}
use Rattle.needs.proofs.keys_wrong.Goals as goal

pub returns-then-c-gt-MOST_BYTES : goal.returns-then-c-gt-MOST_BYTES
returns-then-c-gt-MOST_BYTES c = wrong.wrong-counts _ _ _ encodings.keys-coded c.if-c-gt-MOST_BYTES.true

pub returns-then-items_wrong : goal.returns-then-items_wrong
returns-then-items_wrong c = wrong.wrong-items _ _ _ (encodings.keys-stored _) c.items_wrong.ensures c.if-items_wrong.true

pub keys_past-requires : goal.keys_past-requires
keys_past-requires c = let h = (wrong.items-right _ _ _ c.items_wrong.ensures c.if-items_wrong.false).2 in let g = c.if-c-gt-MOST_BYTES.false in (omega (arith, h), omega (arith, g))

pub returns : goal.returns
returns c =
    wrong.wrong-limits _ _ _ (encodings.keys-stored _) c.items_wrong.ensures (λ _. c.if-c-gt-MOST_BYTES.false) c.if-items_wrong.false
    c.keys_past.ensures
