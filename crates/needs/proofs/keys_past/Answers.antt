-- `needs::keys_past` meets its contract: each return by the law of the tests and arms that led there. Assumes nothing.
use Rattle.needs.proofs.Encodings as encodings
use Rattle.needs.proofs.Limits as limits
use Rattle.needs.proofs.keys_past.Goals as goal

pub returns-then-c-gt-MOST_ROWS : goal.returns-then-c-gt-MOST_ROWS
returns-then-c-gt-MOST_ROWS c = limits.past-rows _ _ _ c.if-c-gt-MOST_ROWS.true

pub returns-then-c-gt-MOST_ITEMS : goal.returns-then-c-gt-MOST_ITEMS
returns-then-c-gt-MOST_ITEMS c = limits.past-runs _ _ _ encodings.keys-coded c.if-c-gt-MOST_ITEMS.true

pub returns-then-c-gt-MOST_ENTRIES : goal.returns-then-c-gt-MOST_ENTRIES
returns-then-c-gt-MOST_ENTRIES c = limits.past-entries _ _ _ encodings.keys-keyed c.if-c-gt-MOST_ENTRIES.true

pub returns : goal.returns
returns c =
    limits.past-block _ _ _ (limits.keys-few _ c.if-c-gt-MOST_ROWS.false c.if-c-gt-MOST_ITEMS.false c.if-c-gt-MOST_ENTRIES.false)
    c.keys_bytes.ensures
