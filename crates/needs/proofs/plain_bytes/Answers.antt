-- `needs::plain_bytes` meets its contract: each return by the law of the tests and arms that led there. Assumes nothing.
use Rattle.needs.proofs.Lengths as lengths
use native.Mathlib.Omega.{arith}
use borrow.Enum.Refused.{opened}
use Rattle.needs.proofs.plain_bytes.Goals as goal

pub returns-in-Fixed : goal.returns-in-Fixed
returns-in-Fixed c = (lengths.plain-bare _ _ _ (opened c.in-Fixed.in-Fixed-own.keys1), omega arith)

pub returns-in-Blob : goal.returns-in-Blob
returns-in-Blob c = (lengths.plain-blob _ _ _ c.in-Blob.is, omega arith)
