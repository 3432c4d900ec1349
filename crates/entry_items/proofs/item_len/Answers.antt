-- `entry_items::item_len` meets its contract: each arm is the law of its kind. Assumes nothing.
use borrow.Author.Rules.{rules}
use Rattle.entry_items.proofs.Entries.{blob-asked, fixed-long, char-long, blob-long}
use Rattle.entry_items.proofs.item_len.Goals as goal

pub blob_of-requires : goal.blob_of-requires
blob_of-requires c = let p = c.requires in blob-asked p.0 p.3 c.in-Blob.is

pub returns-in-Fixed : goal.returns-in-Fixed
returns-in-Fixed c = fixed-long _ _ _ c.in-Fixed.is c.width.ensures

pub returns-in-Char : goal.returns-in-Char
returns-in-Char c = char-long _ _ _ c.in-Char.is (search rules)

pub returns-in-Blob : goal.returns-in-Blob
returns-in-Blob c = blob-long _ _ _ c.in-Blob.is c.requires.1 c.blob_of.result c.blob_of.ensures
