-- `repaired_sizes::Sizes::entries_len` meets its contract: each arm is the law of its kinds. Assumes nothing.
use Rattle.repaired_sizes.proofs.Long as laws
use borrow.Enum.Refused.{opened}
use Rattle.repaired_sizes.proofs.Sizes.entries_len.Goals as goal

pub returns-in-Fixed : goal.returns-in-Fixed
returns-in-Fixed c = laws.few-long _ _ (opened c.in-Fixed.in-Fixed-own.keys1)

pub returns-in-Blob : goal.returns-in-Blob
returns-in-Blob c = laws.blobs-long _ c.in-Blob.is
