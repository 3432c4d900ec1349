-- `trailed` meets its contract: each arm by the encodings that it names. Assumes nothing.
use Rattle.arriving.proofs.Stages as laws
use borrow.Enum.Refused.{opened}
use Rattle.arriving.proofs.trailed.Goals as goal

pub returns-in-Nullable : goal.returns-in-Nullable
returns-in-Nullable c = laws.with-trailer _ c.in-Nullable.in-Nullable-own.keys1

pub returns-in-Plain : goal.returns-in-Plain
returns-in-Plain c = laws.no-trailer _ (opened c.in-Plain.in-Plain-own.keys2)
