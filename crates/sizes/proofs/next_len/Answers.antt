-- `sizes::next_len` meets its contract: each return by the law of the tests and arms that led there. Assumes nothing.
use Rattle.sizes.proofs.Estimates as laws
use borrow.Enum.Refused.{opened}
use Rattle.sizes.proofs.next_len.Goals as goal

pub returns-then-present : goal.returns-then-present
returns-then-present c = let a = c.args in laws.blob-len _ c.in-Blob.is a.present c.if-present.true a.len

pub returns-in-Fixed : goal.returns-in-Fixed
returns-in-Fixed c = let a = c.args in laws.no-len _ (opened c.in-Fixed.in-Fixed-own.keys1) a.present a.len

pub returns-else-present : goal.returns-else-present
returns-else-present c = let a = c.args in laws.blob-null _ c.in-Blob.is a.present c.if-present.false a.len
