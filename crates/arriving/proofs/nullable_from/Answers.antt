-- `nullable_from` meets its contract: each return by the law of the rule that it stands for. Assumes nothing.
use native.Mathlib.Omega.{arith}
use Rattle.arriving.proofs.Stages as laws
use Rattle.arriving.proofs.nullable_from.Goals as goal

pub returns-then-len-lt4 : goal.returns-then-len-lt4
returns-then-len-lt4 c = laws.under-four _ _ _ _ (omega arith)

pub returns-then-len-bits : goal.returns-then-len-bits
returns-then-len-bits c = laws.no-bitmap _ _ _ _ (omega arith) c.bitmap_len-bits.ensures.0 (omega arith)

pub returns : goal.returns
returns c =
    laws.then-plain _ _ _ _ (omega arith) c.bitmap_len-bits.ensures.0 (omega arith) c.plain_from.ensures
