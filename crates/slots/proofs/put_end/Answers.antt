-- `slots::put_end` meets its contract: a blob's end is written, and of no other kind. Assumes nothing.
use borrow.Author.Rules.{rules}
use Rattle.slots.proofs.Areas.{no_end, end-set}
use borrow.Enum.Refused.{opened}
use Rattle.slots.proofs.put_end.Goals as goal

pub returns-in_default : goal.returns-in_default
returns-in_default c = no_end _ _ _ _ (opened c.in_default.in_default-own.keys2)

pub offset_bounds-ends-i : goal.offset_bounds-ends-i
offset_bounds-ends-i c = let h = c.requires.1 _ c.in-Blob.is in search rules

pub bounds-ends-i : goal.bounds-ends-i
bounds-ends-i c = c.requires.1 _ c.in-Blob.is

pub returns : goal.returns
returns c = end-set _ _ _ c.in-Blob.is
