-- `slots::item_len` meets its contract: each arm is the law of its kind. Assumes nothing.
use Rattle.slots.proofs.Items as laws
use Rattle.slots.proofs.item_len.Goals as goal

pub returns-in-Fixed : goal.returns-in-Fixed
returns-in-Fixed c = laws.fixed-long _ _ _ _ _ c.in-Fixed.is c.width.ensures

pub returns-in-Char : goal.returns-in-Char
returns-in-Char c = laws.char-long _ _ _ _ _ c.in-Char.is c.requires

pub returns-in-Blob : goal.returns-in-Blob
returns-in-Blob c = laws.blob-long _ _ _ _ c.in-Blob.is c.given_len.ensures
