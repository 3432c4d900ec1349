-- `varint::size` meets its contract: each return by the law of its size. Assumes nothing.
use native.Mathlib.Omega.{arith}
use Rattle.varint.proofs.Spelling as laws
use Rattle.varint.proofs.size.Goals as goal

pub returns-then-value-lt128 : goal.returns-then-value-lt128
returns-then-value-lt128 c = laws.size1 _ (omega arith)

pub returns-then-value-lt16384 : goal.returns-then-value-lt16384
returns-then-value-lt16384 c = laws.size2 _ (omega arith) (omega arith)

pub returns-then-value-lt2097152 : goal.returns-then-value-lt2097152
returns-then-value-lt2097152 c = laws.size3 _ (omega arith) (omega arith)

pub returns-then-value-lt268435456 : goal.returns-then-value-lt268435456
returns-then-value-lt268435456 c = laws.size4 _ (omega arith) (omega arith)

pub returns : goal.returns
returns c = laws.size5 _ (omega arith) (omega arith)
