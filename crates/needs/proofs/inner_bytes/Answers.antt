-- `needs::inner_bytes` meets its contract: each return by the law of the tests and arms that led there. Assumes nothing.
use Rattle.needs.proofs.Lengths as lengths
use native.Mathlib.Omega.{arith}
use Rattle.needs.proofs.inner_bytes.Goals as goal

pub returns-then-nullable : goal.returns-then-nullable
returns-then-nullable c = (lengths.inner-flagged _ _ _ c.plain_bytes-bare.ensures.0 c.if-nullable.true c.bitmap_len.ensures.0, omega arith)

pub returns : goal.returns
returns c = (lengths.inner-bare _ _ _ c.plain_bytes-bare.ensures.0 c.if-nullable.false, omega arith)
