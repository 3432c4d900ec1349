-- `slots::put_len` meets its contract: a char's length is written, and of no other kind. Assumes nothing.
use native.Mathlib.Omega.{arith}
use Rattle.slots.proofs.Areas.{no-len, len-set}
use borrow.Enum.Refused.{opened}
use Rattle.slots.proofs.put_len.Goals as goal

pub returns-in_default : goal.returns-in_default
returns-in_default c = no-len _ _ _ _ (opened c.in_default.in_default-own.keys2)

pub overflow_cast-lens : goal.overflow_cast-lens
overflow_cast-lens c = let h = c.requires _ c.in-Char.is in omega arith

pub bounds-lens-i : goal.bounds-lens-i
bounds-lens-i c = (c.requires _ c.in-Char.is).0

pub returns : goal.returns
returns c = len-set _ _ _ _ c.in-Char.is
