-- `nullable::check` meets its contract: each return by the law of the rule that it stands for. Assumes nothing.
use native.Mathlib.Omega.{arith}
use mathlib.Core.Path.{sym}
use lib.Seq.{length-take-le}
use Rattle.nullable.proofs.Number as laws
use Rattle.nullable.proofs.check.Goals as goal

pub returns-then-len-lt4 : goal.returns-then-len-lt4
returns-then-len-lt4 c = laws.no-trailer _ _ _ (omega arith)

pub returns-then-u32_at-bitmap : goal.returns-then-u32_at-bitmap
returns-then-u32_at-bitmap c = laws.other_length _ _ _ (omega arith) c.u32_at.ensures.0 c.bitmap_len-bitmap.ensures.0 c.if-u32_at-bitmap.true

pub returns-then-len-bitmap : goal.returns-then-len-bitmap
returns-then-len-bitmap c =
    laws.no-bitmap _ _ _ (omega arith) c.u32_at.ensures.0 c.bitmap_len-bitmap.ensures.0
    (omega arith) (omega arith)

-- the part that is lent has the length that the code gives it
pub slice_bounds-check-end : goal.slice_bounds-check-end
slice_bounds-check-end c = sym (length-take-le _ _ (omega arith))

pub returns : goal.returns
returns c =
    laws.then-plain _ _ _ (omega arith) c.u32_at.ensures.0
    c.bitmap_len-bitmap.ensures.0 (omega arith) (omega arith) c.check.ensures
